use Rattle.iloc_spec_grammar.specs.Syntax.{PrivateSubtag}
use Rattle.iloc_pieces.proofs.ByShape.{cursor_by_shape}
use Rattle.iloc_pieces.proofs.cursor.is_private.Goals as goal

pub returns : goal.returns
returns c = cursor_by_shape PrivateSubtag tt c.args.cursor _ c.is_private.ensures
