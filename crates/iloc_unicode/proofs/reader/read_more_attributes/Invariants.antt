-- The words so far are taken.
use Rattle.std.proofs.Common.{◌++◌, length}
use Rattle.iloc_subtags.specs.Left.{left}
use Rattle.iloc_unicode.proofs.AttributeLemmas.{Gathered}
use Rattle.iloc_unicode.proofs.reader.read_more_attributes.Given as goal

abbrev pub invariant-words : goal.invariant-words
invariant-words g l = Gathered (l.fn.four ++ left l.fn.iter) (left l.iter) l.words

abbrev pub decreases-words : goal.decreases-words
decreases-words g l = length (left l.iter)
