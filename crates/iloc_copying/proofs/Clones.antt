-- Lists of clones.
use Rattle.std.proofs.Common.{◌≡◌, List, [], ◌∷◌, refl, ap₂}
use Rattle.std.specs.List.{AllZip}

-- where a clone equals its item, a list of clones equals the list
pub equal_of_clones : {T : Type 0} (Clones : T → T → Type 0) → ((x y : T) → Clones x y → y ≡ x) →
    (xs ys : List T) → AllZip Clones xs ys → ys ≡ xs
equal_of_clones Clones same [] [] h = refl
equal_of_clones Clones same [] (y ∷ ys) h = absurd h
equal_of_clones Clones same (x ∷ xs) [] h = absurd h
equal_of_clones Clones same (x ∷ xs) (y ∷ ys) (h, t) =
    ap₂ (λ z zs. z ∷ zs) (same x y h) (equal_of_clones Clones same xs ys t)
