-- The words so far are in the value.
use Rattle.std.proofs.Common.{length}
use Rattle.iloc_subtags.specs.Left.{left}
use Rattle.iloc_word_list.proofs.ReadingLemmas.{Valued}
use Rattle.iloc_word_list.proofs.reader.read_words.Given as goal

abbrev pub invariant-words : goal.invariant-words
invariant-words g l = Valued g.K.WordKind.kind (left l.fn.iter) (left l.iter) l.value

abbrev pub decreases-words : goal.decreases-words
decreases-words g l = length (left l.iter)
