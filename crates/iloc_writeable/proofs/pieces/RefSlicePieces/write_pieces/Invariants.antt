use Rattle.std.proofs.Common.{◌≡◌, not, ◌&&◌, take}
use Rattle.std.specs.List.{flat_map}
use Rattle.iloc_writeable.specs.Pieces.{hyphened, is_there}
use Rattle.iloc_writeable.proofs.pieces.RefSlicePieces.write_pieces.Given as goal

abbrev pub invariant-loop-part : goal.invariant-loop-part
invariant-loop-part g l =
    let before = flat_map g.P.Pieces.pieces (take l.part-index l.self.now) in
    record {
      took : g.S.Sink.took l.initial.sink (hyphened l.first before) l.sink;
      still_first : l.part_first ≡ (l.first && not (is_there before));
    }
