use Rattle.iloc_spec_grammar.specs.Syntax.{Region}
use Rattle.iloc_pieces.proofs.ByShape.{cursor_by_shape}
use Rattle.iloc_pieces.proofs.cursor.is_region.Goals as goal

pub returns : goal.returns
returns c = cursor_by_shape Region tt c.args.cursor _ c.is_region.ensures
