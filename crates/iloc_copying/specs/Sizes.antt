-- How many items there are in lists of lists. This project's rule.
use Rattle.std.specs.Prelude.{ℕ, ◌+◌, List, [], ◌∷◌}

-- the items of a list, and all that each of them owns
abbrev pub items_in : {T : Type 0} → (T → ℕ) → List T → ℕ
items_in size [] = 0
items_in size (x ∷ xs) = 1 + size x + items_in size xs
