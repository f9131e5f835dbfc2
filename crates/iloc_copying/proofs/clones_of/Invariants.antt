use Rattle.std.proofs.Common.{◌≡◌, ◌≤◌, length, take, vec_len, vec_capacity}
use Rattle.std.specs.List.{AllZip}
use Rattle.iloc_copying.proofs.clones_of.Given as goal

-- what is done are clones of the front of the list
abbrev pub invariant-loop-item : goal.invariant-loop-item
invariant-loop-item g l = record {
  front : AllZip g.T.Clone.is_clone (take l.item-index l.items) l.clones.items;
  count : vec_len l.clones ≡ l.item-index;
  room : length l.items ≤ vec_capacity l.clones;
}
