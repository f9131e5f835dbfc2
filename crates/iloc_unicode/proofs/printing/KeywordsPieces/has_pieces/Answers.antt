use Rattle.std.proofs.Common.{ap, not, ◌∙◌}
use Rattle.iloc_unicode.proofs.PrintLemmas.{fields_there}
use Rattle.iloc_unicode.proofs.printing.KeywordsPieces.has_pieces.Goals as goal

pub returns : goal.returns
returns c = ap not c.is_empty.ensures ∙ fields_there c.args.self.now
