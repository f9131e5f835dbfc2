use Rattle.std.proofs.Common.{[], ◌++◌, sym, ap, ◌∙◌}
use Rattle.iloc_writeable.specs.Pieces.{hyphened}
use Rattle.iloc_writeable.proofs.WritingLemmas.{Writes-last, Writes-stopped}
use Rattle.iloc_writeable.proofs.PiecesLemmas.{hyphened-append}
use Rattle.iloc_writeable.proofs.pieces.Tuple2Pieces.write_pieces.Goals as goal

pub returns-in_err-write_pieces : goal.returns-in_err-write_pieces
returns-in_err-write_pieces g c =
    Writes-stopped g.met.S.Sink.took_then_failed g.met.S.Sink.failed_of_more _ _ _ _ [] _ _ _ _
    (sym (hyphened-append c.args.first (g.P.Pieces.pieces c.args.self.now.0)
    (g.Q.Pieces.pieces c.args.self.now.1)))
    (g.met.S.Sink.took_nothing _) c.in_err-write_pieces.ensures c.from_residual.ensures.1

pub returns : goal.returns
returns g c =
    let ps = g.P.Pieces.pieces c.args.self.now.0 in
    let qs = g.Q.Pieces.pieces c.args.self.now.1 in
    Writes-last g.met.S.Sink.took_then_took g.met.S.Sink.took_then_failed _ _ _ _ _ _ _
    (ap (λ b. hyphened c.args.first ps ++ hyphened b qs) c.is_first_after-second_first.ensures
    ∙ sym (hyphened-append c.args.first ps qs))
    c.in_ok-write_pieces.ensures c.write_pieces-2.ensures
