use Rattle.std.proofs.Common.{ap, not, ◌∙◌}
use Rattle.iloc_unicode.specs.UnicodeValue.{value_of}
use Rattle.iloc_unicode.proofs.PrintLemmas.{unicode_there}
use Rattle.iloc_unicode.proofs.unicode.UnicodePieces.has_pieces.Goals as goal

pub returns : goal.returns
returns c = ap not c.is_empty.ensures ∙ unicode_there (value_of c.args.self.now)
