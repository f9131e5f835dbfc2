use Rattle.std.proofs.Common.{◌≡◌, ◌-◌, drop, take}
use Rattle.iloc_spans.specs.Group.{group_spans}
use Rattle.iloc_spans.specs.Inserting.{spans_in_order}
use Rattle.iloc_spans.proofs.spans.Spans.take_from.Given as goal

-- the spans from the place on, up to here, are in order in the group
abbrev pub invariant-loop-i : goal.invariant-loop-i
invariant-loop-i g l = group_spans l.group ≡ spans_in_order (take (l.i - l.from) (drop l.from l.held))
