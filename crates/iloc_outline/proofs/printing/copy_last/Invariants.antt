use Rattle.std.proofs.Common.{◌≡◌, ◌+◌, ◌-◌, ◌≤◌, ◌++◌, length, take, drop}
use Rattle.iloc_spec_grammar.specs.Syntax.{lower}
use Rattle.iloc_outline.proofs.printing.copy_last.Given as goal

-- what was copied stands behind what was there
abbrev pub invariant-bytes : goal.invariant-bytes
invariant-bytes l = record {
  inside : l.at + l.done ≤ length l.window;
  room : l.start + l.done ≤ length l.to;
  few : l.done ≤ l.count;
  copied : take (l.start + l.done) l.to ≡ take l.start l.fn.to ++ lower (take l.done (drop l.at l.window));
}

abbrev pub decreases-bytes : goal.decreases-bytes
decreases-bytes l = l.count - l.done
