-- The tests of what a step does to a list.
use Rattle.std.proofs.Common.{◌≡◌, ◌⊎◌, inl, inr, ℕ, ◌+◌, ◌<◌, Bool, true, false, cond, ◌||◌, List, [], ◌∷◌, refl, sym, subst, arith, true≢false}
use Rattle.std.specs.List.{list_any, AllZip}
use Rattle.std.proofs.lemmas.Bool.{and_parts, and_from}
use Rattle.iloc_spec_grammar.specs.Syntax.{Text, lower}
use Rattle.iloc_spec_grammar.specs.Values.{Reordered, Without, WithoutRepeats}
use Rattle.iloc_spec_grammar.proofs.Orders.{total, total_reordered}
use Rattle.iloc_spec_grammar.proofs.Sorting.{itself}
use Rattle.iloc_spec_grammar.proofs.RuleTests.{Tests, tests_and, tests_either, tests_like}
use Rattle.iloc_spec_grammar.specs.StepTests.{all_zip, take_out, is_reordered, is_without, was_seen, is_without_repeats}
use Rattle.iloc_spec_grammar.proofs.Equality.{Equality, never}

tests_itself : (b : Bool) → Tests b (b ≡ true)
tests_itself b = record { holds = λ e. e; passes = λ e. e }

pub tests_zip : {X : Type 0} (test : X → X → Bool) (R : X → X → Type 0) →
    ((x y : X) → Tests (test x y) (R x y)) → (xs ys : List X) → Tests (all_zip test xs ys) (AllZip R xs ys)
tests_zip test R t [] [] = record { holds = λ e. tt; passes = λ z. refl }
tests_zip test R t [] (y ∷ ys) = never (λ z. z)
tests_zip test R t (x ∷ xs) [] = never (λ z. z)
tests_zip test R t (x ∷ xs) (y ∷ ys) = tests_and (t x y) (tests_zip test R t xs ys)

module _ {X : Type 0} (same : X → X → Bool) (q : Equality same) where
  -- the same items in another order

  put_back : (x : X) (ys : List X) → list_any (same x) ys ≡ true → Reordered (x ∷ take_out same x ys) ys
  put_back x [] e = absurd (true≢false (sym e))
  put_back x (y ∷ ys) e = (elim (same x y) as (λ b. same x y ≡ b → (b || list_any (same x) ys) ≡ true →
      Reordered (x ∷ cond b ys (y ∷ take_out same x ys)) (y ∷ ys)) [
        | true ↦ λ s e. subst (λ z. Reordered (x ∷ ys) (z ∷ ys)) ((q x y).holds s) (itself (x ∷ ys))
        | false ↦ λ s e. Reordered.in_turn Reordered.first_two (Reordered.front_kept (put_back x ys e))
      ]) refl e

  reordered_holds : (xs ys : List X) → is_reordered same xs ys ≡ true → Reordered xs ys
  reordered_holds [] [] e = Reordered.none
  reordered_holds [] (y ∷ ys) e = absurd (true≢false (sym e))
  reordered_holds (x ∷ xs) ys e = let parts = and_parts _ _ e in
      Reordered.in_turn (Reordered.front_kept (reordered_holds xs (take_out same x ys) parts.1))
      (put_back x ys parts.0)

  -- how often an item occurs: at one place, and in a list
  abbrev at_one : X → X → ℕ
  at_one z y = cond (same z y) 1 0

  abbrev occurrences : X → List X → ℕ
  occurrences z ys = total (at_one z) ys

  any_from_occurrences : (x : X) (ys : List X) → 0 < occurrences x ys → list_any (same x) ys ≡ true
  any_from_occurrences x [] h = absurd (omega arith)
  any_from_occurrences x (y ∷ ys) h =
      (elim (same x y) as (λ b. 0 < cond b 1 0 + occurrences x ys → (b || list_any (same x) ys) ≡ true) [
        | true ↦ λ h. refl
        | false ↦ λ h. any_from_occurrences x ys (omega arith)
      ]) h

  at_itself : (x : X) → at_one x x ≡ 1
  at_itself x = grind arith

  -- where each item occurs as often in both lists, they have the same items
  reordered_from_occurrences : (xs ys : List X) → ((z : X) → occurrences z ys ≡ occurrences z xs) →
      is_reordered same xs ys ≡ true
  reordered_from_occurrences [] [] h = refl
  reordered_from_occurrences [] (y ∷ ys) h = let a = h y in let b = at_itself y in absurd (omega arith)
  reordered_from_occurrences (x ∷ xs) ys h =
      and_from _ _ found (reordered_from_occurrences xs (take_out same x ys)
      (λ z. let a = h z in let b = total_reordered (at_one z) (put_back x ys found) in omega arith))
    where
      found : list_any (same x) ys ≡ true
      found = any_from_occurrences x ys (let a = h x in let b = at_itself x in omega arith)

  pub tests_reordered : (xs ys : List X) → Tests (is_reordered same xs ys) (Reordered xs ys)
  tests_reordered xs ys = search (reordered_holds, reordered_from_occurrences, total_reordered)

  -- some items left out

  module _ (test : X → Bool) where
    without_next : {x y : X} {xs ys : List X} →
        (x ≡ y) × Without test xs ys ⊎ (test x ≡ true) × Without test xs (y ∷ ys) →
        Without test (x ∷ xs) (y ∷ ys)
    without_next {x = x} {xs = xs} {ys = ys} (inl p) =
        subst (λ z. Without test (x ∷ xs) (z ∷ ys)) p.0 (Without.stays p.1)
    without_next (inr p) = Without.left_out p.0 p.1

    next_without : {x y : X} {xs ys : List X} → Without test (x ∷ xs) (y ∷ ys) →
        (x ≡ y) × Without test xs ys ⊎ (test x ≡ true) × Without test xs (y ∷ ys)
    next_without (Without.stays w) = inl (refl, w)
    next_without (Without.left_out e w) = inr (e, w)

    last_without : {x : X} {xs : List X} → Without test (x ∷ xs) [] →
        (test x ≡ true) × Without test xs []
    last_without (Without.left_out e w) = (e, w)

    pub tests_without : (xs ys : List X) → Tests (is_without same test xs ys) (Without test xs ys)
    tests_without [] [] = record { holds = λ e. Without.none; passes = λ w. refl }
    tests_without [] (y ∷ ys) = never (λ w. elim w [ ])
    tests_without (x ∷ xs) [] =
        tests_like (λ (p : (test x ≡ true) × Without test xs []). Without.left_out p.0 p.1)
        last_without (tests_and (tests_itself (test x)) (tests_without xs []))
    tests_without (x ∷ xs) (y ∷ ys) =
        grind (
          arith,
          tests_like,
          without_next,
          next_without,
          tests_either,
          tests_and,
          tests_itself,
          tests_without xs ys,
          tests_without xs (y ∷ ys),
        )

  -- repeats left out

  module _ (key : X → Text) where
    abbrev Next : List Text → X → List X → X → List X → Type 0
    Next seen x xs y ys = (x ≡ y) × WithoutRepeats key (lower (key x) ∷ seen) xs ys
        ⊎ (was_seen key seen x ≡ true) × WithoutRepeats key seen xs (y ∷ ys)

    repeats_next : {seen : List Text} {x y : X} {xs ys : List X} → Next seen x xs y ys →
        WithoutRepeats key seen (x ∷ xs) (y ∷ ys)
    repeats_next {seen = seen} {x = x} {xs = xs} {ys = ys} (inl p) =
        subst (λ z. WithoutRepeats key seen (x ∷ xs) (z ∷ ys)) p.0 (WithoutRepeats.stays p.1)
    repeats_next (inr p) = WithoutRepeats.left_out p.0 p.1

    next_repeats : {seen : List Text} {x y : X} {xs ys : List X} →
        WithoutRepeats key seen (x ∷ xs) (y ∷ ys) → Next seen x xs y ys
    next_repeats (WithoutRepeats.stays w) = inl (refl, w)
    next_repeats (WithoutRepeats.left_out e w) = inr (e, w)

    last_repeats : {seen : List Text} {x : X} {xs : List X} → WithoutRepeats key seen (x ∷ xs) [] →
        (was_seen key seen x ≡ true) × WithoutRepeats key seen xs []
    last_repeats (WithoutRepeats.left_out e w) = (e, w)

    pub tests_without_repeats : (seen : List Text) (xs ys : List X) →
        Tests (is_without_repeats same key seen xs ys) (WithoutRepeats key seen xs ys)
    tests_without_repeats seen [] [] = record { holds = λ e. WithoutRepeats.none; passes = λ w. refl }
    tests_without_repeats seen [] (y ∷ ys) = never (λ w. elim w [ ])
    tests_without_repeats seen (x ∷ xs) [] = tests_like (λ
        (p : (was_seen key seen x ≡ true) × WithoutRepeats key seen xs []). WithoutRepeats.left_out p.0 p.1)
        last_repeats (tests_and (tests_itself (was_seen key seen x)) (tests_without_repeats seen xs []))
    tests_without_repeats seen (x ∷ xs) (y ∷ ys) =
        grind (
          arith,
          tests_like,
          repeats_next,
          next_repeats,
          tests_either,
          tests_and,
          tests_itself,
          tests_without_repeats (lower (key x) ∷ seen) xs ys,
          tests_without_repeats seen xs (y ∷ ys),
        )
