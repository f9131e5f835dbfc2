use Rattle.iloc_spec_grammar.specs.Syntax.{TransformKey}
use Rattle.iloc_pieces.proofs.ByShape.{cursor_by_shape}
use Rattle.iloc_pieces.proofs.cursor.is_field_key.Goals as goal

pub returns : goal.returns
returns c = cursor_by_shape TransformKey tt c.args.cursor _ c.is_field_key.ensures
