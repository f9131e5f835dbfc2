-- What a search for a byte gives.
use Rattle.std.proofs.Common.{◌≡◌, ℕ, ◌≤◌, Bool, List, [], ◌∷◌, length, arith, cond, Option, Some, None, unwrap_or, nat_lt}
use Rattle.std.specs.List.{position_or_len}
use Rattle.std.proofs.lemmas.Grind.{common_steps}

-- the place of the first that passes is within the list
pub position_or_len-le-length : (p : ℕ → Bool) (xs : List ℕ) → position_or_len p xs ≤ length xs
position_or_len-le-length p [] = omega arith
position_or_len-le-length p (x ∷ xs) =
    let rest : position_or_len p xs ≤ length xs = position_or_len-le-length p xs in grind arith

-- the first place, where one was found, or the length, is `position_or_len`
pub unwrap_or-position : (p : ℕ → Bool) (xs : List ℕ) (r : Option ℕ)
    → cond (nat_lt (position_or_len p xs) (length xs)) (Some (position_or_len p xs)) None ≡ r
    → unwrap_or r (length xs) ≡ position_or_len p xs
unwrap_or-position p xs r e =
    let within : position_or_len p xs ≤ length xs = position_or_len-le-length p xs in
    grind (arith, common_steps)
