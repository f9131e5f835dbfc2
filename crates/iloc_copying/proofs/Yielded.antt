-- The items that an iterator has given.
use Rattle.std.proofs.Common.{[], ◌∷◌, ◌++◌, List, Option, Some, refl}
use Rattle.std.specs.Iterator.{Yields}

-- the items so far and one more
pub one_more_yielded : {S A : Type 0} (steps : S → Option A → S → Type 0) (s : S) (xs : List A) (t : S)
    (x : A) (u : S) → Yields steps s xs t → steps t (Some x) u → Yields steps s (xs ++ x ∷ []) u
one_more_yielded steps s [] t x u e h = (u, rw e h, refl)
one_more_yielded steps s (y ∷ ys) t x u (j, first, later) h =
    (j, first, one_more_yielded steps j ys t x u later h)
