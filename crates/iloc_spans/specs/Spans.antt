-- The spans that stand in the room.
use Rattle.std.specs.Prelude.{◌==◌, if◌then◌else◌, List, take}
use Rattle.iloc_spans.specs.More.{more_spans}
use Rattle.iloc_spans.specs.declared.span.Span.{Span}
use Rattle.iloc_spans.specs.declared.spans.Spans.{Spans}

-- the spans that there are: those in place, or those in the room that grows
abbrev pub held_spans : Spans → List Span
held_spans s = if s.room == 0 then more_spans s.more else take s.count s.list
