-- What is wanted stands in what is given exactly if what is still wanted stands in what is left.
use Rattle.std.proofs.Common.{◌↔◌}
use Rattle.iloc_subtags.specs.Left.{left}
use Rattle.iloc_matching.specs.Range.{Follows}
use Rattle.iloc_matching.proofs.follows.Given as goal

abbrev pub invariant-loop-piece : goal.invariant-loop-piece
invariant-loop-piece l =
    Follows (left l.wanted) (left l.piece-iterator) ↔ Follows (left l.fn.wanted) (left l.fn.given)
