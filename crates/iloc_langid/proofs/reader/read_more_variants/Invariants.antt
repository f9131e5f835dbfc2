use Rattle.std.proofs.Common.{◌++◌, length}
use Rattle.iloc_subtags.specs.Left.{left}
use Rattle.iloc_langid.proofs.TakingLemmas.{Taking}
use Rattle.iloc_langid.proofs.reader.read_more_variants.Given as goal

abbrev pub invariant-words : goal.invariant-words
invariant-words g l = Taking (l.fn.four ++ left l.fn.iter) (left l.iter) l.words

abbrev pub decreases-words : goal.decreases-words
decreases-words g l = length (left l.iter)
