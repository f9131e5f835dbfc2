use Rattle.std.proofs.Common.{arith}
use Rattle.iloc_pieces.proofs.LoadLemmas.{short_text, long_text}
use Rattle.iloc_pieces.proofs.load.load.Goals as goal

pub returns-then-text-le8 : goal.returns-then-text-le8
returns-then-text-le8 c = grind (arith, short_text)

pub returns : goal.returns
returns c = grind (arith, long_text)
