use Rattle.std.proofs.Common.{take_all, arith}
use Rattle.iloc_faults.proofs.walk.walk_text.Goals as goal

pub returns : goal.returns
returns g c = grind (arith, take_all)
