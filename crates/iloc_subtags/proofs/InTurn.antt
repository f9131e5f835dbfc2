-- A fact of each item of a list, told from a place on.
use Rattle.std.proofs.Common.{◌≡◌, ℕ, zero, suc, ◌+◌, ◌<◌, ◌≤◌, List, [], ◌∷◌, length, get_or, drop, sym, ap, ◌∙◌, subst, arith}
use Rattle.std.specs.List.{AllByRecursion}
use Rattle.std.proofs.Math.Seq.{drop-cons}

pub all_from : {X : Type 0} (P : X → Type 0) (xs : List X) (i : ℕ) (x : X) → i < length xs →
    x ≡ get_or xs i x → P x → AllByRecursion P (drop (i + 1) xs) → AllByRecursion P (drop i xs)
all_from P xs i x lt is p h =
    let next : i + 1 ≡ suc i = omega arith in
    subst (AllByRecursion P) (sym (drop-cons xs i x lt ∙ ap (λ y. y ∷ drop (suc i) xs) (sym is)))
    (p, subst (λ n. AllByRecursion P (drop n xs)) next h)

pub all_past : {X : Type 0} (P : X → Type 0) (xs : List X) (i : ℕ) → length xs ≤ i →
    AllByRecursion P (drop i xs)
all_past P [] i h = elim i as (λ i. AllByRecursion P (drop i [])) [ zero ↦ tt | suc i ↦ tt ]
all_past P (x ∷ xs) zero h = absurd (omega (arith, h))
all_past P (x ∷ xs) (suc i) h = all_past P xs i (omega (arith, h))
