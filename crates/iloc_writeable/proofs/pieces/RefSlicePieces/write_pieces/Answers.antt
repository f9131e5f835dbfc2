use Rattle.std.proofs.Common.{◌∙◌, subst}
use Rattle.iloc_writeable.proofs.WritingLemmas.{Writes-stopped}
use Rattle.iloc_writeable.proofs.PiecesLemmas.{hyphened-at, hyphened-next, first-next}
use Rattle.iloc_writeable.proofs.pieces.RefSlicePieces.write_pieces.Goals as goal

pub returns-in_err-write_pieces : goal.returns-in_err-write_pieces
returns-in_err-write_pieces g c =
    Writes-stopped g.met.S.Sink.took_then_failed g.met.S.Sink.failed_of_more _ _ _ _ _ _ _ _ _
    (hyphened-at g.P.Pieces.pieces _ _ _ _ _ c.loop-part-test.true c.part-item.is
    c.loop-part.invariant.still_first)
    c.loop-part.invariant.took c.in_err-write_pieces.ensures c.from_residual.ensures.1

pub loop-part-preserved : goal.loop-part-preserved
loop-part-preserved g c =
    let still = c.loop-part.invariant.still_first in
    record {
      took = subst (λ t. g.S.Sink.took c.args.sink.now t c.write_pieces.new.sink)
          (hyphened-next g.P.Pieces.pieces _ _ _ _ _ c.loop-part-test.true c.part-item.is still)
          (g.met.S.Sink.took_then_took _ _ _ _ _ c.loop-part.invariant.took c.in_ok-write_pieces.ensures);
      still_first = c.is_first_after-part_first.ensures
          ∙ first-next g.P.Pieces.pieces _ _ _ _ _ c.loop-part-test.true c.part-item.is still;
    }
