use Rattle.std.proofs.Common.{length}
use Rattle.iloc_json.specs.Carrying.{SoFar}
use Rattle.iloc_json.proofs.carry.carry_v1_in.Given as goal

abbrev pub invariant-words : goal.invariant-words
invariant-words g l = SoFar l.fn.row l.rest l.carried.items l.count

abbrev pub decreases-words : goal.decreases-words
decreases-words g l = length l.rest
