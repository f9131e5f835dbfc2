use Rattle.std.proofs.Common.{◌-◌, ◌≡◌, ◌+◌, ◌≤◌, ◌++◌, drop, take}
use Rattle.iloc_spans.proofs.inserting.insert_at.Given as goal

-- the spans from one place on stand one further
abbrev pub invariant-moved : goal.invariant-moved
invariant-moved l = record {
  from : l.at ≤ l.from;
  within : l.from ≤ l.made;
  list : l.list ≡ take (l.from + 1)
      l.fn.list ++ (take (l.made - l.from) (drop l.from l.fn.list) ++ drop (l.made + 1) l.fn.list);
}

abbrev pub decreases-moved : goal.decreases-moved
decreases-moved l = l.from - l.at
