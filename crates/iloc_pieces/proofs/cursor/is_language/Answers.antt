use Rattle.iloc_spec_grammar.specs.Syntax.{Language, languages}
use Rattle.iloc_spec_grammar.proofs.RawLaws.{languages_table}
use Rattle.iloc_pieces.proofs.ByShape.{cursor_by_shape}
use Rattle.iloc_pieces.proofs.cursor.is_language.Goals as goal

pub returns : goal.returns
returns c = cursor_by_shape (Language languages) languages_table.most c.args.cursor _ c.is_language.ensures
