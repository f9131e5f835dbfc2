use Rattle.iloc_spec_grammar.specs.Syntax.{Attribute}
use Rattle.iloc_pieces.proofs.ByShape.{cursor_by_shape}
use Rattle.iloc_pieces.proofs.cursor.is_attribute.Goals as goal

pub returns : goal.returns
returns c = cursor_by_shape Attribute tt c.args.cursor _ c.is_attribute.ensures
