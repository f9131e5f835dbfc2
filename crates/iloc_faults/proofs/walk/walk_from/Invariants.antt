use Rattle.std.proofs.Common.{take}
use Rattle.iloc_faults.specs.States.{IsWalked}
use Rattle.iloc_faults.proofs.walk.walk_from.Given as goal

abbrev pub invariant-pieces : goal.invariant-pieces
invariant-pieces g l = IsWalked l.mode (take l.len l.first.window.now) l.at l.state

abbrev pub decreases-pieces : goal.decreases-pieces
decreases-pieces g l = l.at.remaining
