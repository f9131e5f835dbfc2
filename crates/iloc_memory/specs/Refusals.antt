-- What a refused request for memory makes true. This project's rule.
use Rattle.std.specs.Prelude.{ℕ, ◌≤◌}

-- room for some number of items was refused, and for at most so many
abbrev pub RefusedWithin : (ℕ → Type 0) → ℕ → Type 0
RefusedWithin Refused limit = (n : ℕ) × (n ≤ limit) × Refused n
