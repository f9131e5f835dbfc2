use Rattle.std.proofs.Common.{length}
use Rattle.iloc_word_list.proofs.printing.+are_dashed.Given as goal

abbrev pub decreases-are_dashed : goal.decreases-are_dashed
decreases-are_dashed l = length l.subtags.now
