use Rattle.std.proofs.Common.{◌≡◌, ◌-◌, ◌++◌, length, take, drop}
use Rattle.iloc_spans.proofs.inserting.turn_in_place.Given as goal

-- the last spans that were moved stand at the place, and the others are as they were
abbrev pub invariant-loop-i : goal.invariant-loop-i
invariant-loop-i l = record {
  long : length l.list ≡ 64;
  moved : take l.i l.list ≡ take l.at
      l.fn.list ++ (take (l.i - l.from) (drop l.from l.fn.list) ++ drop l.at (take l.from l.fn.list));
  rest : drop l.i l.list ≡ drop l.i l.fn.list;
}
