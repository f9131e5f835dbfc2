use Rattle.std.proofs.Common.{arith}
use Rattle.iloc_pieces.proofs.RunWords.{run_tests}
use Rattle.iloc_pieces.proofs.words.are_letters.Goals as goal

pub returns : goal.returns
returns c = grind (arith, run_tests)
