-- A sort by keys, and what is left without repeats.
use Rattle.std.proofs.Common.{arith, ◌≡◌, Bool, true, false, cond, not, ◌||◌, List, [], ◌∷◌, map, filter, refl, true≢false}
use Rattle.std.specs.List.{AllByRecursion, list_any}
use Rattle.std.specs.Ordering.{is_lt, is_eq, eq_by_cmp, ordering_reverse}
use Rattle.std.specs.Cmp.{IsTotalOrder}
use Rattle.std.specs.declared.cmp.Ordering.{Ordering}
use Rattle.std.specs.declared.cmp.Ordering.TheVariants.{Less, Equal, Greater}
use Rattle.std.specs.FinMap.{is_sorted}
use Rattle.std.specs.FinMap.Entries.{below_all}
use Rattle.std.proofs.lemmas.Bool.{and_parts, and_from, or_parts, or_from, or_left, or_right, false_from_ne_true, both_ways, cond_both, not-false}
use Rattle.iloc_spec_grammar.specs.Syntax.{Text, lower, word_cmp, is_same, AllDifferent}
use Rattle.iloc_spec_grammar.specs.Values.{Reordered, Without, WithoutRepeats}
use Rattle.iloc_spec_grammar.proofs.MapLaws.{word_cmp_total, less}
pub use Rattle.iloc_spec_grammar.proofs.Orders.{itself}
use Rattle.iloc_spec_grammar.proofs.Orders.{or_swap}
use Rattle.std.proofs.lemmas.Map.Steps.{list_any_congr}

-- of two that are not tied, one is below the other
turned : (o : Ordering) → is_lt o ≡ false → is_eq o ≡ false → is_lt (ordering_reverse o) ≡ true
turned Less p q = absurd (true≢false p)
turned Equal p q = absurd (true≢false q)
turned Greater p q = refl

module _ {K X : Type 0} (R : K → K → Ordering) (key : X → K) where
  abbrev pub put_in : X → List X → List X
  put_in x [] = x ∷ []
  put_in x (y ∷ ys) = cond (is_lt (R (key y) (key x))) (y ∷ put_in x ys) (x ∷ y ∷ ys)

  abbrev pub sort : List X → List X
  sort [] = []
  sort (x ∷ xs) = put_in x (sort xs)

  reordered-put_in : (x : X) (ys : List X) → Reordered (x ∷ ys) (put_in x ys)
  reordered-put_in x [] = itself (x ∷ [])
  reordered-put_in x (y ∷ ys) = cond_both (is_lt (R (key y) (key x))) _ _ (Reordered (x ∷ y ∷ ys))
      (λ _. Reordered.in_turn Reordered.first_two (Reordered.front_kept (reordered-put_in x ys)))
      (λ _. itself (x ∷ y ∷ ys))

  pub reordered-sort : (xs : List X) → Reordered xs (sort xs)
  reordered-sort [] = Reordered.none
  reordered-sort (x ∷ xs) =
      Reordered.in_turn (Reordered.front_kept (reordered-sort xs)) (reordered-put_in x (sort xs))

  abbrev listed : {V : Type 0} → (X → V) → List X → List (K × V)
  listed value xs = map (λ x. (key x, value x)) xs

  module _ {V : Type 0} (o : IsTotalOrder R) (value : X → V) where
    below-put_in : (k : K) (x : X) (ys : List X) → is_lt (R k (key x)) ≡ true →
        below_all R k (listed value ys) ≡ true → below_all R k (listed value (put_in x ys)) ≡ true
    below-put_in k x [] p h = and_from _ _ p refl
    below-put_in k x (y ∷ ys) p h =
        let parts = and_parts _ _ h in grind (arith, below-put_in k x ys p parts.1)

    below-trans : (k l : K) (ys : List X) → R k l ≡ Less → below_all R l (listed value ys) ≡ true →
        below_all R k (listed value ys) ≡ true
    below-trans k l [] p h = refl
    below-trans k l (y ∷ ys) p h = let parts = and_parts _ _ h in grind (arith, below-trans k l ys p parts.1)

    sorted-put_in : (x : X) (ys : List X) → list_any (eq_by_cmp R (key x)) (map key ys) ≡ false →
        is_sorted R (listed value ys) ≡ true → is_sorted R (listed value (put_in x ys)) ≡ true
    sorted-put_in x [] d h = refl
    sorted-put_in x (y ∷ ys) d h =
        let apart = or_parts _ _ d in let parts = and_parts _ _ h in
        grind (
          arith,
          cond_both,
          and_from,
          below-put_in,
          sorted-put_in x ys apart.1 parts.1,
          less,
          turned,
          below-trans,
        )

    any-put_in : (test : K → Bool) (x : X) (ys : List X) →
        list_any test (map key (put_in x ys)) ≡ (test (key x) || list_any test (map key ys))
    any-put_in test x [] = refl
    any-put_in test x (y ∷ ys) = grind (arith, cond_both, or_swap, any-put_in test x ys)

    any-sort : (test : K → Bool) (xs : List X) →
        list_any test (map key (sort xs)) ≡ list_any test (map key xs)
    any-sort test [] = refl
    any-sort test (x ∷ xs) = rw (any-put_in, any-sort test xs)

    -- items whose keys differ are in order once sorted
    pub sorted-sort : (xs : List X) → AllDifferent R (map key xs) →
        is_sorted R (listed value (sort xs)) ≡ true
    sorted-sort [] d = refl
    sorted-sort (x ∷ xs) d = grind (arith, sorted-put_in, any-sort, false_from_ne_true, sorted-sort xs d.1)

-- repeats

module _ {X : Type 0} (key : X → Text) where
  abbrev pub dedup : List Text → List X → List X
  dedup seen [] = []
  dedup seen (x ∷ xs) =
      cond (list_any (is_same (lower (key x))) seen) (dedup seen xs) (x ∷ dedup (lower (key x) ∷ seen) xs)

  pub without-dedup : (seen : List Text) (xs : List X) → WithoutRepeats key seen xs (dedup seen xs)
  without-dedup seen [] = WithoutRepeats.none
  without-dedup seen (x ∷ xs) = cond_both (list_any (is_same (lower (key x))) seen) _ _
      (WithoutRepeats key seen (x ∷ xs)) (λ e. WithoutRepeats.left_out e (without-dedup seen xs))
      (λ _. WithoutRepeats.stays (without-dedup (lower (key x) ∷ seen) xs))

  abbrev keys : List X → List Text
  keys xs = map (λ x. lower (key x)) xs

  -- what was seen is not left
  unseen-dedup : (k : Text) (seen : List Text) (xs : List X) → list_any (is_same k) seen ≡ true →
      list_any (is_same k) (keys (dedup seen xs)) ≡ false
  unseen-dedup k seen [] h = refl
  unseen-dedup k seen (x ∷ xs) h =
      grind (
        arith,
        cond_both,
        or_from,
        or_right,
        false_from_ne_true,
        both_ways,
        list_any_congr,
        word_cmp_total,
        unseen-dedup k seen xs h,
        unseen-dedup k (lower (key x) ∷ seen) xs (or_right _ _ h),
      )

  pub different-dedup : (seen : List Text) (xs : List X) → AllDifferent word_cmp (keys (dedup seen xs))
  different-dedup seen [] = tt
  different-dedup seen (x ∷ xs) = cond_both (list_any (is_same (lower (key x))) seen) _ _
      (λ l. AllDifferent word_cmp (keys l)) (λ _. different-dedup seen xs) (λ _. (
        both_ways _ (unseen-dedup (lower (key x)) (lower (key x) ∷ seen) xs
            (grind (arith, or_left, word_cmp_total))),
        different-dedup (lower (key x) ∷ seen) xs,
      ))

-- what doesn't pass

pub without-filter : {X : Type 0} (test : X → Bool) (xs : List X) →
    Without test xs (filter (λ x. not (test x)) xs)
without-filter test [] = Without.none
without-filter test (x ∷ xs) =
    cond_both (not (test x)) _ _ (Without test (x ∷ xs)) (λ _. Without.stays (without-filter test xs))
    (λ e. Without.left_out (not-false _ e) (without-filter test xs))

pub filter-passes : {X : Type 0} (test : X → Bool) (xs : List X) →
    AllByRecursion (λ x. test x ≡ true) (filter test xs)
filter-passes test [] = tt
filter-passes test (x ∷ xs) = grind (arith, cond_both, filter-passes test xs)
