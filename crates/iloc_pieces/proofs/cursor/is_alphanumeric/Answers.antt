use Rattle.std.proofs.Common.{◌==◌, not, ap, ◌∙◌}
use Rattle.iloc_pieces.specs.Cursor.{piece_left}
use Rattle.iloc_pieces.proofs.CursorLemmas.{single_short}
use Rattle.iloc_pieces.proofs.ByShape.{cursor_shape, single_shape}
use Rattle.iloc_pieces.proofs.cursor.is_alphanumeric.Goals as goal

pub returns : goal.returns
returns c =
    let p = piece_left c.args.cursor in
    ap (λ s. not (s == 0)) (cursor_shape c.args.cursor (single_short p c.requires))
    ∙ single_shape p c.requires
