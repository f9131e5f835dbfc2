use Rattle.std.proofs.Common.{◌≡◌, ◌+◌, ◌≤◌, length}
use Rattle.std.specs.Iterator.{size}
use Rattle.iloc_copying.proofs.list_of.Given as goal

-- what has come is in the list, and no more comes than may be left
abbrev pub invariant-loop-item : goal.invariant-loop-item
invariant-loop-item g l = record {
  can : (goal.iterator-loop-item g).can_next l.item-iterator;
  finite : (goal.iterator-loop-item g).is_finite l.item-iterator;
  items : l.list.items ≡ l.yielded;
  left : length l.yielded + (goal.iterator-loop-item g).remaining l.item-iterator
      ≤ size (g.I.Iterator.remaining l.fn.items);
}
