use Rattle.std.proofs.Common.{arith}
use Rattle.iloc_pieces.proofs.LaneLemmas.{beside, long_beside}
use Rattle.iloc_pieces.proofs.tail.Tail.in_normal.Goals as goal

pub returns-clause-long : goal.returns-clause-long
returns-clause-long c = grind (arith, long_beside)

pub returns-clause-bytes : goal.returns-clause-bytes
returns-clause-bytes c = grind (arith, beside)
