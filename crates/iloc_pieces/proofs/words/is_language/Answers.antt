use Rattle.std.proofs.Common.{arith}
use Rattle.iloc_pieces.proofs.RunWords.{language_is}
use Rattle.iloc_pieces.proofs.words.is_language.Goals as goal

pub returns-then-not-is_language_length : goal.returns-then-not-is_language_length
returns-then-not-is_language_length c = grind (arith, language_is)

pub returns : goal.returns
returns c = grind (arith, language_is)
