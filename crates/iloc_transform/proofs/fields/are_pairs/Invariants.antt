-- The pairs that were looked at are normal.
use Rattle.std.proofs.Common.{take}
use Rattle.std.specs.List.{AllByRecursion}
use Rattle.iloc_transform.specs.FieldsReading.{IsFieldPair}
use Rattle.iloc_transform.proofs.fields.are_pairs.Given as goal

abbrev pub invariant-loop-pair : goal.invariant-loop-pair
invariant-loop-pair l = AllByRecursion IsFieldPair (take l.pair-index l.pairs)
