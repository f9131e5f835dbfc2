use Rattle.std.proofs.Common.{◌≡◌}
use Rattle.iloc_shortvec.proofs.short_words.ShortWords.from_iter_in.Given as goal

-- the list is what has come
abbrev pub invariant-loop-item : goal.invariant-loop-item
invariant-loop-item g l = record {
  callable : (goal.iterator-loop-item g).can_next l.item-iterator;
  ends : (goal.iterator-loop-item g).is_finite l.item-iterator;
  kept : l.list ≡ l.yielded;
}
