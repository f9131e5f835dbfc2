-- For how much a refused request for memory was, of what is iterated. This project's rule.
use Rattle.std.specs.Prelude.{ℕ, ◌+◌, List, length, Option}
use Rattle.std.specs.Iterator.{Yields, Count, size}
use Rattle.iloc_memory.specs.Refusals.{RefusedWithin}

-- what is iterated gave some items, and room for at most these and so many more was refused
abbrev pub RefusedAmong : {U S A : Type 0} → (U → S → Type 0) → (S → Option A → S → Type 0) →
    (ℕ → Type 0) → U → ℕ → Type 0
RefusedAmong {S = S} {A = A} becomes steps Refused iter more =
    (it : S) × (xs : List A) × (rest : S) × becomes iter it × Yields steps it xs rest
    × RefusedWithin Refused (more + length xs)

-- room for at most as many items as come at most, and so many more, was refused
abbrev pub RefusedAhead : {U S : Type 0} → (U → S → Type 0) → (S → Count) → (ℕ → Type 0) → U → ℕ → Type 0
RefusedAhead {S = S} becomes left Refused iter more =
    (it : S) × becomes iter it × RefusedWithin Refused (more + size (left it))
