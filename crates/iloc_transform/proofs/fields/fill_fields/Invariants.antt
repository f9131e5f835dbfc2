-- The fields so far are those of the pieces so far.
use Rattle.std.proofs.Common.{length}
use Rattle.iloc_subtags.specs.Left.{left}
use Rattle.iloc_transform.proofs.FieldsLemmas.{TakingFields}
use Rattle.iloc_transform.proofs.fields.fill_fields.Given as goal

abbrev pub invariant-keys : goal.invariant-keys
invariant-keys g l = TakingFields (left l.fn.iter) (left l.iter) l.fields

abbrev pub decreases-keys : goal.decreases-keys
decreases-keys g l = length (left l.iter)
