-- The items of a list, and those that they own.
use Rattle.std.proofs.Common.{ℕ, zero, suc, ◌≤◌, ◌<◌, List, [], ◌∷◌, length, get_or, arith}
use Rattle.iloc_copying.specs.Sizes.{items_in}

-- a list has no more items than that
pub length_fits : {T : Type 0} (size : T → ℕ) (xs : List T) → length xs ≤ items_in size xs
length_fits size [] = omega arith
length_fits size (x ∷ xs) = omega (arith, length_fits size xs)

-- nor does any item own more
pub item_fits : {T : Type 0} (size : T → ℕ) (xs : List T) (i : ℕ) (d : T) → i < length xs →
    size (get_or xs i d) ≤ items_in size xs
item_fits size [] i d h = absurd (omega (arith, h))
item_fits size (x ∷ xs) zero d h = omega arith
item_fits size (x ∷ xs) (suc i) d h = omega (arith, item_fits size xs i d (omega (arith, h)))
