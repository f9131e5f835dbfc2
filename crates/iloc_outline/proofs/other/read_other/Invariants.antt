use Rattle.std.proofs.Common.{◌≡◌}
use Rattle.iloc_outline.proofs.OtherLemmas.{PassesOther}
use Rattle.iloc_outline.proofs.other.read_other.Given as goal

-- all pieces before this one may stand in the block, and nothing was put
abbrev pub invariant-pieces : goal.invariant-pieces
invariant-pieces g l = record {
  passed : PassesOther l.fn.cursor l.cursor l.is_good l.edited;
  spans : l.spans ≡ l.fn.spans;
  in_order : l.in_order ≡ l.fn.in_order;
}

abbrev pub decreases-pieces : goal.decreases-pieces
decreases-pieces g l = l.cursor.remaining
