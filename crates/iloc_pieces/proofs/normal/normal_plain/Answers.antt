use Rattle.std.proofs.Common.{arith, length-take-le}
use Rattle.iloc_pieces.proofs.normal.normal_plain.Goals as goal

pub returns : goal.returns
returns c = grind (arith, length-take-le)
