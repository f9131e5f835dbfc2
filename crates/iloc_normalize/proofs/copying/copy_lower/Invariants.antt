use Rattle.std.proofs.Common.{◌≡◌, ◌-◌, ◌≤◌, length, take}
use Rattle.iloc_spec_grammar.specs.Syntax.{lower}
use Rattle.iloc_normalize.proofs.copying.copy_lower.Given as goal

-- what was copied stands at the front
abbrev pub invariant-parts : goal.invariant-parts
invariant-parts l = record {
  within : l.at ≤ l.fn.count;
  room : length l.to ≡ l.fn.count;
  copied : take l.at l.to ≡ lower (take l.at l.fn.from);
}

abbrev pub decreases-parts : goal.decreases-parts
decreases-parts l = l.fn.count - l.at
