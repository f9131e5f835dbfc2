-- Spans in memory that grows.
use Rattle.std.specs.Prelude.{List, [], Option, Some, None}
use Rattle.iloc_spans.specs.declared.more.More.{More}
use Rattle.iloc_spans.specs.declared.span.Span.{Span}

-- the spans in the room that grows; none if there is no such room
abbrev pub more_spans : Option More → List Span
more_spans None = []
more_spans (Some m) = m.list.items
