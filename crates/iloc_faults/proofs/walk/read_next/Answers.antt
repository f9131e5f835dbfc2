use Rattle.std.proofs.Common.{sym, ◌∙◌}
use Rattle.iloc_pieces.specs.Cursor.{piece_left}
use Rattle.iloc_faults.proofs.Walks.{no_word}
use Rattle.iloc_faults.proofs.walk.read_next.Goals as goal

pub returns-then-is_single : goal.returns-then-is_single
returns-then-is_single g c vs h =
    no_word c.args.stage vs (piece_left c.args.at) (sym c.is_single.ensures ∙ c.if-is_single.true)
