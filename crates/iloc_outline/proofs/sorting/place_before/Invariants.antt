use Rattle.std.proofs.Common.{◌≡◌, ◌-◌, ◌≤◌, false, take}
use Rattle.std.specs.List.{list_any}
use Rattle.iloc_outline.specs.Groups.{is_greater}
use Rattle.iloc_outline.proofs.sorting.place_before.Given as goal

-- none of the spans so far is a block of a greater rank
abbrev pub invariant-places : goal.invariant-places
invariant-places l = record {
  within : l.at ≤ l.from;
  none : list_any (λ s. is_greater l.rank s.role s.word) (take l.at l.held) ≡ false;
}

abbrev pub decreases-places : goal.decreases-places
decreases-places l = l.from - l.at
