use Rattle.std.proofs.Common.{◌≡◌, ◌+◌, ◌≤◌, length}
use Rattle.iloc_shortvec.proofs.short_box_slice.ShortBoxSlice.from_iter_in.Given as goal

-- the list is what has come, and no more comes than may be left
abbrev pub invariant-loop-item : goal.invariant-loop-item
invariant-loop-item g l = record {
  callable : (goal.iterator-loop-item g).can_next l.item-iterator;
  ends : (goal.iterator-loop-item g).is_finite l.item-iterator;
  kept : l.list ≡ l.yielded;
  left : length l.yielded + (goal.iterator-loop-item g).remaining l.item-iterator
      ≤ (goal.iterator-loop-item g).remaining l.initial.item-iterator;
}
