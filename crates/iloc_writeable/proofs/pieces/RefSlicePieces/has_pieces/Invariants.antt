use Rattle.std.proofs.Common.{◌≡◌, false, take}
use Rattle.std.specs.List.{flat_map}
use Rattle.iloc_writeable.specs.Pieces.{is_there}
use Rattle.iloc_writeable.proofs.pieces.RefSlicePieces.has_pieces.Given as goal

abbrev pub invariant-loop-part : goal.invariant-loop-part
invariant-loop-part g l = is_there (flat_map g.P.Pieces.pieces (take l.part-index l.self.now)) ≡ false
