use Rattle.std.proofs.Common.{◌≡◌, ◌+◌, ◌-◌, ◌<◌, ◌≤◌, ◌++◌, length, take, drop}
use Rattle.iloc_spec_grammar.specs.Syntax.{lower}
use Rattle.iloc_outline.proofs.printing.copy_lower.Given as goal

-- what was copied stands behind what was there
abbrev pub invariant-parts : goal.invariant-parts
invariant-parts l = record {
  inside : l.at + l.done ≤ length l.window;
  room : l.start + l.done ≤ length l.to;
  few : l.done < l.count + 16;
  copied : take (l.start + l.done) l.to ≡ take l.start l.fn.to ++ lower (take l.done (drop l.at l.window));
}

abbrev pub decreases-parts : goal.decreases-parts
decreases-parts l = l.count - l.done
