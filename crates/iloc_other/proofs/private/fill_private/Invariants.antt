-- The words so far are those of the pieces so far.
use Rattle.iloc_subtags.specs.Left.{left}
use Rattle.iloc_other.proofs.TakingLemmas.{TakingWords}
use Rattle.iloc_other.proofs.private.fill_private.Given as goal

abbrev pub invariant-words : goal.invariant-words
invariant-words g l = TakingWords (left l.initial.iter) (left l.iter) l.private-inside.words
