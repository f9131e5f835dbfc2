use Rattle.std.proofs.Common.{arith}
use Rattle.iloc_faults.proofs.Walks.{walk_starts}
use Rattle.iloc_faults.proofs.walk.walk.Goals as goal

pub walk_from-requires-clause-walked : goal.walk_from-requires-clause-walked
walk_from-requires-clause-walked g c = grind (arith, walk_starts)
