use Rattle.std.proofs.Common.{sym, ◌∙◌}
use Rattle.iloc_writeable.proofs.PiecesLemmas.{is_there-at}
use Rattle.iloc_writeable.proofs.pieces.RefSlicePieces.has_pieces.Goals as goal

pub returns-then-has_pieces : goal.returns-then-has_pieces
returns-then-has_pieces g c =
    is_there-at g.P.Pieces.pieces c.args.self.now.now _ _ c.loop-part-test.true c.part-item.is
    (sym c.has_pieces.ensures ∙ c.if-has_pieces.true)
