use Rattle.std.proofs.Common.{◌≡◌, ◌++◌, map}
use Rattle.std.specs.Map.Iter.{deref}
use Rattle.iloc_spans.specs.Spans.{held_spans}
use Rattle.iloc_spans.specs.declared.span.Span.{Span}
use Rattle.iloc_spans.proofs.group.Group.put_into.Given as goal

-- the spans so far stand behind the others
abbrev pub invariant-loop-span : goal.invariant-loop-span
invariant-loop-span g l = held_spans l.spans ≡ held_spans l.fn.spans ++ map (deref {X = Span}) l.yielded
