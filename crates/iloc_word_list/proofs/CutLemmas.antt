-- Items cut off from the end one by one.
use Rattle.std.proofs.Common.{◌≡◌, ℕ, ◌≤◌, List, length, take}
use Rattle.iloc_spec_grammar.specs.Syntax.{Text}

-- of all, the first so many stay
pub record Cut (count : ℕ) (all now : List Text) : Type 0 where
  pub keeps : count ≤ length now
  pub first : take count now ≡ take count all
