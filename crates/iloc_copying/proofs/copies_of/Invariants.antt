use Rattle.std.proofs.Common.{◌≡◌, ◌≤◌, length, take, vec_len, vec_capacity}
use Rattle.iloc_copying.proofs.copies_of.Given as goal

-- what is done is the front of the list
abbrev pub invariant-loop-item : goal.invariant-loop-item
invariant-loop-item g l = record {
  front : l.copies.items ≡ take l.item-index l.items;
  count : vec_len l.copies ≡ l.item-index;
  room : length l.items ≤ vec_capacity l.copies;
}
