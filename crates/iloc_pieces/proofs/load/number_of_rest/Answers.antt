use Rattle.std.proofs.Common.{arith}
use Rattle.iloc_pieces.proofs.LoadLemmas.{number_eight, number_rest}
use Rattle.iloc_pieces.proofs.load.number_of_rest.Goals as goal

pub returns-in-Some : goal.returns-in-Some
returns-in-Some c = grind (arith, number_rest, number_eight)
