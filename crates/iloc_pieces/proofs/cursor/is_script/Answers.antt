use Rattle.iloc_spec_grammar.specs.Syntax.{Script}
use Rattle.iloc_pieces.proofs.ByShape.{cursor_by_shape}
use Rattle.iloc_pieces.proofs.cursor.is_script.Goals as goal

pub returns : goal.returns
returns c = cursor_by_shape Script tt c.args.cursor _ c.is_script.ensures
