use Rattle.std.proofs.Common.{◌-◌}
use Rattle.iloc_faults.proofs.Walks.{IsScanned}
use Rattle.iloc_faults.proofs.walk.end_of.Given as goal

abbrev pub invariant-loop-end : goal.invariant-loop-end
invariant-loop-end l = IsScanned l.at l.end

abbrev pub decreases-loop-end : goal.decreases-loop-end
decreases-loop-end l = l.stop - l.end
