use Rattle.iloc_spec_grammar.specs.Syntax.{Subtag}
use Rattle.iloc_pieces.proofs.ByShape.{cursor_by_shape}
use Rattle.iloc_pieces.proofs.cursor.is_subtag.Goals as goal

pub returns : goal.returns
returns c = cursor_by_shape Subtag tt c.args.cursor _ c.is_subtag.ensures
