use Rattle.std.proofs.Common.{◌-◌, ◌<◌, ◌≤◌, map, slice_index}
use Rattle.iloc_spans.proofs.inserting.place_of.Given as goal

-- the span does not come behind those from the place on
abbrev pub invariant-places : goal.invariant-places
invariant-places l = record {
  least : l.from ≤ l.at;
  within : l.at ≤ l.made;
  before : l.at < l.made → l.span.word ≤ slice_index (map (λ s. s.word) l.list) l.at;
}

abbrev pub decreases-places : goal.decreases-places
decreases-places l = l.at - l.from
