use Rattle.std.proofs.Common.{◌≤◌, ◌++◌, List, length, drop}
use Rattle.std.specs.Fn.{CalledAt}
use Rattle.std.specs.List.Retain.{IsFiltered}
use Rattle.iloc_shortvec.specs.Kept.{items_of, IsKept}
use Rattle.iloc_shortvec.proofs.kept.kept_of.Given as goal

-- what the rest of the calls keep goes after what was kept
abbrev pub invariant-loop-item : goal.invariant-loop-item
invariant-loop-item g l = record {
  callable : goal.F-IsAlwaysCallable g l.keep;
  kept : IsKept l.kept;
  short : length (items_of l.kept) ≤ l.item-index;
  filtered : (ys : List g.row.T.Denot) →
      IsFiltered (CalledAt g.F.FnMut) l.keep (drop l.item-index l.items) ys →
      IsFiltered (CalledAt g.F.FnMut) l.fn.keep l.fn.items (items_of l.kept ++ ys);
}
