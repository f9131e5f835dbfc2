use Rattle.std.proofs.Common.{sym, ◌∙◌}
use Rattle.iloc_pieces.proofs.CursorLemmas.{short_attribute}
use Rattle.iloc_faults.proofs.step.read_piece.Goals as goal

pub is_true-requires : goal.is_true-requires
is_true-requires c =
    short_attribute _ (sym c.is_attribute-in-SubdivisionValue.ensures ∙ c.if-is_attribute-2.true)
