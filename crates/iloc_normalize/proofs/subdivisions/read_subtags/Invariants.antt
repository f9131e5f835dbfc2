use Rattle.iloc_normalize.proofs.Subtags.{Reaches}
use Rattle.iloc_normalize.proofs.subdivisions.read_subtags.Given as goal

-- only `true` was passed
abbrev pub invariant-trues : goal.invariant-trues
invariant-trues l = Reaches l.fn.key l.at

abbrev pub decreases-trues : goal.decreases-trues
decreases-trues l = l.at.remaining
