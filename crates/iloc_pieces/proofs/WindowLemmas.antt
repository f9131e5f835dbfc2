-- Texts with room behind them.
use Rattle.std.proofs.Common.{◌≡◌, ℕ, ◌+◌, ◌-◌, ◌≤◌, length, take, arith}
use Rattle.std.proofs.lemmas.List.{length-take-le, take-take}
use Rattle.iloc_spec_grammar.specs.Syntax.{Text}

-- the first bytes, cut out with sixteen more
pub text_of_cut : (w : Text) (n : ℕ) → n + 16 ≤ length w →
    take (length (take (n + 16) w) - 16) (take (n + 16) w) ≡ take n w
text_of_cut w n inside = grind (arith, length-take-le, take-take)
