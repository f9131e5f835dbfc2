use Rattle.std.proofs.Common.{arith, get_or}
use Rattle.iloc_pieces.proofs.LaneLemmas.{beside, long_beside}
use Rattle.iloc_pieces.proofs.tail.Tail.above_least.Goals as goal

pub returns : goal.returns
returns c = grind (arith, beside, long_beside, get_or)
