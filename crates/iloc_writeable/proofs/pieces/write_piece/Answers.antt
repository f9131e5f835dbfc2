use Rattle.std.proofs.Common.{[], ◌∷◌, ap, sym, ◌∙◌}
use Rattle.iloc_writeable.specs.Pieces.{hyphened}
use Rattle.iloc_writeable.proofs.WritingLemmas.{Writes-last, Writes-stopped}
use Rattle.iloc_writeable.proofs.PiecesLemmas.{hyphened-one}
use Rattle.iloc_writeable.proofs.pieces.write_piece.Goals as goal

pub returns-in_err-write_str : goal.returns-in_err-write_str
returns-in_err-write_str g c =
    let p = c.args.piece.now in
    Writes-stopped g.met.S.Sink.took_then_failed g.met.S.Sink.failed_of_more _ _ _ _ [] _ p _ _
    (hyphened-one p ∙ ap (λ b. hyphened b (p ∷ [])) (sym c.if-first.false)) (g.met.S.Sink.took_nothing _)
    c.in_err-write_str.ensures c.from_residual.ensures.1

pub returns : goal.returns
returns g c =
    let p = c.args.piece.now in
    Writes-last g.met.S.Sink.took_then_took g.met.S.Sink.took_then_failed _ _ _ _ _ _ _
    (hyphened-one p ∙ ap (λ b. hyphened b (p ∷ [])) (sym c.if-first.false)) c.in_ok-write_str.ensures
    c.write_str-3.ensures
