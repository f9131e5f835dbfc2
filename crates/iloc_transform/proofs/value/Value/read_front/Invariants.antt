-- The value so far is that of the pieces so far.
use Rattle.std.proofs.Common.{length}
use Rattle.iloc_subtags.specs.Left.{left}
use Rattle.iloc_transform.proofs.ValueLemmas.{TakingValues}
use Rattle.iloc_transform.proofs.value.Value.read_front.Given as goal

abbrev pub invariant-words : goal.invariant-words
invariant-words g l = TakingValues (left l.fn.iter) (left l.iter) l.value

abbrev pub decreases-words : goal.decreases-words
decreases-words g l = length (left l.iter)
