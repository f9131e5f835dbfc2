-- The words so far are those of the pieces so far.
use Rattle.std.proofs.Common.{◌≡◌, length}
use Rattle.iloc_subtags.specs.Left.{left}
use Rattle.iloc_other.proofs.OtherLemmas.{TakingPieces}
use Rattle.iloc_other.proofs.other.Other.try_from_iter.Given as goal

abbrev pub invariant-pieces : goal.invariant-pieces
invariant-pieces g l = record {
  singleton : l.other.0 ≡ l.fn.ext;
  words : TakingPieces (left l.initial.iter) (left l.iter) l.other.1;
}

abbrev pub decreases-pieces : goal.decreases-pieces
decreases-pieces g l = length (left l.iter)
