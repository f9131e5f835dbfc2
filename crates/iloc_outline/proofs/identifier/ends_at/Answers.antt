use Rattle.std.proofs.Common.{arith}
use Rattle.iloc_pieces.proofs.CursorLemmas.{last_piece}
use Rattle.iloc_outline.proofs.identifier.ends_at.Goals as goal

pub returns-then-is_last : goal.returns-then-is_last
returns-then-is_last c = grind (arith, last_piece)
