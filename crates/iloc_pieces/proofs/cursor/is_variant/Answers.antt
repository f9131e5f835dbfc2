use Rattle.iloc_spec_grammar.specs.Syntax.{Variant}
use Rattle.iloc_pieces.proofs.ByShape.{cursor_by_shape}
use Rattle.iloc_pieces.proofs.cursor.is_variant.Goals as goal

pub returns : goal.returns
returns c = cursor_by_shape Variant tt c.args.cursor _ c.is_variant.ensures
