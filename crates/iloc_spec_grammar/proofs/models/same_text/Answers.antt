-- Piece by piece.
use Rattle.iloc_spec_grammar.proofs.SameText.{text_is}
use Rattle.iloc_spec_grammar.proofs.models.same_text.Goals as goal

pub returns : goal.returns
returns c = text_is
