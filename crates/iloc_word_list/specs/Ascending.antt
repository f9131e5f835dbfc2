-- Lists in strictly ascending order.
use Rattle.std.specs.Prelude.{Bool, true, ◌&&◌, List, [], ◌∷◌}
use Rattle.std.specs.Ordering.{is_lt}
use Rattle.std.specs.declared.cmp.Ordering.{Ordering}

-- each item is less than the next
abbrev pub ascends : {T : Type 0} → (T → T → Ordering) → List T → Bool
ascends cmp [] = true
ascends cmp (x ∷ []) = true
ascends cmp (x ∷ (y ∷ items)) = is_lt (cmp x y) && ascends cmp (y ∷ items)
