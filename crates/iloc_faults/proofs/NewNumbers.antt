-- Numbers of which none comes twice, and how many come before one that does.
use Rattle.std.proofs.Common.{◌≡◌, inl, inr, ℕ, zero, suc, ◌+◌, ◌<◌, ◌≤◌, Bool, true, false, List, [], ◌∷◌, ◌++◌, length, refl, sym, ap, ◌∙◌, subst, arith, append_assoc, append-nil, true≢false, get_or, take, drop, set, take_all, Result, Ok, Err, is_ok, MatchResult}
use Rattle.std.specs.Prelude.{⊤}
use Rattle.std.specs.List.{AllByRecursion, list_any}
use Rattle.std.specs.List.Sorted.{IsPermutation, IsNonDecreasing, IsStrictlyIncreasing, IsBinarySearchResult}
use Rattle.std.specs.Ordering.{nat_cmp}
use Rattle.std.specs.Cmp.{IsEquivalence, eq_by_cmp_equiv, nat_cmp_total}
use Rattle.std.proofs.lemmas.Bool.{cases_lt, or_from}
use Rattle.std.proofs.lemmas.List.Folds.{list_any-append, list_any_at}
use Rattle.std.proofs.lemmas.List.Sorted.{list_any-IsPermutation, searched}
use Rattle.std.proofs.lemmas.List.{length-take-le, take_more_set}
use Rattle.std.proofs.Math.Seq.{drop-cons, take-suc, take-append_seam}
use Rattle.std.proofs.lemmas.Map.Keys.{IsDistinct-head, IsDistinct-tail, IsDistinct-push, IsDistinct-from_sorted, apart_from_distinct, sorted_from_strictly_increasing}
use Rattle.iloc_spec_grammar.proofs.ReadBack.{all_append}
use Rattle.iloc_spec_grammar.proofs.Singletons.{untied}
use Rattle.iloc_faults.specs.States.{AreNew}
use Rattle.iloc_faults.specs.Numbers.{same, AreDistinct, AreOthers, BeginsAmong, ComeBefore}

pub laws : IsEquivalence same
laws = eq_by_cmp_equiv nat_cmp_total

-- ---- parts of lists

pub record Cut (n : ℕ) (xs : List ℕ) : Type 0 where
  pub first : List ℕ
  pub later : List ℕ
  pub is : xs ≡ first ++ later
  pub long : length first ≡ n

pub cut_at : (n : ℕ) (xs : List ℕ) → n ≤ length xs → Cut n xs
cut_at zero xs h = grind arith
cut_at (suc n) [] h = absurd (omega arith)
cut_at (suc n) (x ∷ xs) h =
    let c = cut_at n xs (omega arith) in
    record { first = x ∷ c.first; later = c.later; is = ap (λ ys. x ∷ ys) c.is; long = ap suc c.long }

-- of two ways to cut a list, the longer first part begins with the shorter one
pub longer : (os ls ds ks : List ℕ) → ds ++ ks ≡ os ++ ls → length os ≤ length ds →
    (ts : List ℕ) × (ds ≡ os ++ ts) × (ls ≡ ts ++ ks)
longer [] ls ds ks e h = (ds, refl, sym e)
longer (o ∷ os) ls [] ks e h = absurd (omega arith)
longer (o ∷ os) ls (d ∷ ds) ks e h =
    let head : d ≡ o = cc in
    let tail : ds ++ ks ≡ os ++ ls = cc in
    let p = longer os ls ds ks tail (omega arith) in
    (p.0, λ j. head j ∷ p.1 j, p.2)

-- ---- none comes twice

pub rest_distinct : (xs ys : List ℕ) → AreDistinct (xs ++ ys) → AreDistinct ys
rest_distinct [] ys h = h
rest_distinct (x ∷ xs) ys h = rest_distinct xs ys (IsDistinct-tail same x (xs ++ ys) h)

-- a number after others is none of them
pub is_other : (xs : List ℕ) (y : ℕ) (ys : List ℕ) → AreDistinct (xs ++ (y ∷ ys)) →
    list_any (same y) xs ≡ false
is_other [] y ys h = refl
is_other (x ∷ xs) y ys h =
    or_from _ _ (laws.symm y x ∙ seam xs (IsDistinct-head same x (xs ++ (y ∷ ys)) h))
    (is_other xs y ys (IsDistinct-tail same x (xs ++ (y ∷ ys)) h))
  where
    seam : (xs : List ℕ) → AllByRecursion (λ z. same x z ≡ false) (xs ++ (y ∷ ys)) → same x y ≡ false
    seam [] k = k.0
    seam (z ∷ zs) k = seam zs k.1

-- one more that is none of them
others_more : (xs : List ℕ) (y : ℕ) (ys : List ℕ) → AreOthers xs ys →
    AllByRecursion (λ z. same y z ≡ false) ys → AreOthers (xs ++ (y ∷ [])) ys
others_more xs y [] h k = tt
others_more xs y (z ∷ zs) h k = grind (arith, list_any-append, or_from, others_more xs y zs h.1 k.1)

pub both_distinct : (xs ys : List ℕ) → AreDistinct xs → AreDistinct ys → AreOthers xs ys →
    AreDistinct (xs ++ ys)
both_distinct xs [] d e o = grind (arith, append-nil)
both_distinct xs (y ∷ ys) d e o = subst AreDistinct (append_assoc xs (y ∷ []) ys)
    (both_distinct (xs ++ (y ∷ [])) ys (IsDistinct-push laws xs y d o.0) (IsDistinct-tail same y ys e)
    (others_more xs y ys o.1 (IsDistinct-head same y ys e)))

-- ---- none is among others

pub others_both : (xs ys zs : List ℕ) → AreOthers xs zs → AreOthers ys zs → AreOthers (xs ++ ys) zs
others_both xs ys [] h k = tt
others_both xs ys (z ∷ zs) h k =
    (list_any-append (same z) xs ys ∙ or_from _ _ h.0 k.0, others_both xs ys zs h.1 k.1)

pub others_first : (ks xs ys : List ℕ) → AreOthers ks (xs ++ ys) → AreOthers ks xs
others_first ks [] ys h = tt
others_first ks (x ∷ xs) ys h = (h.0, others_first ks xs ys h.1)

pub others_rest : (ks xs ys : List ℕ) → AreOthers ks (xs ++ ys) → AreOthers ks ys
others_rest ks [] ys h = h
others_rest ks (x ∷ xs) ys h = others_rest ks xs ys h.1

pub others_moved : (ks ms xs : List ℕ) → IsPermutation ks ms → AreOthers ms xs → AreOthers ks xs
others_moved ks ms [] p h = tt
others_moved ks ms (x ∷ xs) p h =
    (list_any-IsPermutation (same x) ks ms p ∙ h.0, others_moved ks ms xs p h.1)

-- ---- before one that repeats an earlier one

-- the next one repeats one of them, or there is none
abbrev pub Repeats : List ℕ → List ℕ → Type 0
Repeats xs [] = ⊤
Repeats xs (y ∷ ys) = ¬ (AreDistinct (xs ++ (y ∷ [])))

pub new_numbers : (xs ys zs : List ℕ) → AreDistinct (xs ++ ys) → Repeats (xs ++ ys) zs →
    AreNew same xs (ys ++ zs) (length ys)
new_numbers xs [] [] d r = tt
new_numbers xs [] (z ∷ zs) d r = grind (arith, append-nil, IsDistinct-push, laws)
new_numbers xs (y ∷ ys) zs d r = grind (arith, is_other, append_assoc, new_numbers (xs ++ (y ∷ [])) ys zs)

-- one that is among a part of them
pub repeats_part : (xs ks os ls : List ℕ) → BeginsAmong ks ls → Repeats ((xs ++ ks) ++ os) ls
repeats_part xs ks os ls h = grind (arith, is_other, list_any-append)

pub begins_moved : (ks ms ls : List ℕ) → IsPermutation ks ms → BeginsAmong ms ls → BeginsAmong ks ls
begins_moved ks ms ls h k = grind (arith, list_any-IsPermutation)

-- ---- by places

none_at : (p : ℕ → Bool) (xs : List ℕ) → ((k : ℕ) → k < length xs → p (get_or xs k 0) ≡ false) →
    list_any p xs ≡ false
none_at p [] h = refl
none_at p (x ∷ xs) h = or_from _ _ (h 0 (omega arith)) (none_at p xs (λ k less. h (suc k) (omega arith)))

-- what `binary_search` says: whether the number is among them
pub search_is : (xs : List ℕ) (x : ℕ) (r : Result ℕ ℕ) → IsBinarySearchResult (λ y. nat_cmp y x) xs r →
    IsNonDecreasing xs → is_ok r ≡ list_any (same x) xs
search_is xs x r h up = by r (searched xs x r h (λ i j most less. up i j 0 most less))
  where
    by : (r : Result ℕ ℕ) → MatchResult r (λ i. (i < length xs) × (get_or xs i 0 ≡ x))
        (λ i. (i ≤ length xs) × ((k : ℕ) → k < i → get_or xs k 0 < x)
        × ((k : ℕ) → i ≤ k → k < length xs → x < get_or xs k 0)) → is_ok r ≡ list_any (same x) xs
    by (Ok i) k = sym (list_any_at (same x) xs i 0 k.0 (ap (same x) k.1 ∙ laws.refl x))
    by (Err i) k = sym (none_at (same x) xs (λ j less. untied x (get_or xs j 0) (λ e.
        elim (cases_lt j i) [
          | inl low ↦ (let l = k.1 j low in omega (arith, l, e))
          | inr high ↦ (let l = k.2 j high less in omega (arith, l, e))
        ])))

-- the number at a place, and those behind it
pub drop_one : (ns : List ℕ) (k : ℕ) → k < length ns → drop k ns ≡ get_or ns k 0 ∷ drop (k + 1) ns
drop_one ns k less = grind (arith, drop-cons)

take_one : (ns : List ℕ) (k : ℕ) → k < length ns → take (k + 1) ns ≡ take k ns ++ (get_or ns k 0 ∷ [])
take_one ns k less = grind (arith, take-suc)

-- one more that is none of them
pub others_one : (ks ns : List ℕ) (k : ℕ) → k < length ns → AreOthers ks (take k ns) →
    list_any (same (get_or ns k 0)) ks ≡ false → AreOthers ks (take (k + 1) ns)
others_one ks ns k less h e = grind (arith, take_one, all_append)

take_and_drop : (n : ℕ) (xs : List ℕ) → xs ≡ take n xs ++ drop n xs
take_and_drop zero xs = refl
take_and_drop (suc n) [] = refl
take_and_drop (suc n) (x ∷ xs) = grind (arith, take_and_drop n xs)

-- so many are others, and the next is not
pub come_before : (ks ns : List ℕ) (most k : ℕ) → most ≤ length ns → k < most → AreOthers ks (take k ns) →
    list_any (same (get_or ns k 0)) ks ≡ true → ComeBefore ks most ns k
come_before ks ns most k long less h e = record {
  others = take k ns;
  later = drop k ns;
  cut = take_and_drop k ns;
  long = length-take-le k ns (omega arith);
  within = omega arith;
  differ = h;
  ends = inr (subst (BeginsAmong ks) (sym (drop_one ns k (omega arith))) e);
}

-- all of them are others
pub come_all : (ks ns : List ℕ) (most : ℕ) → most ≤ length ns → AreOthers ks (take most ns) →
    ComeBefore ks most ns most
come_all ks ns most long h = record {
  others = take most ns;
  later = drop most ns;
  cut = take_and_drop most ns;
  long = length-take-le most ns long;
  within = omega arith;
  differ = h;
  ends = inl refl;
}

-- one more that was written
pub taken_more : (xs ns : List ℕ) (k x : ℕ) → k < length xs → k < length ns → take k xs ≡ take k ns →
    x ≡ get_or ns k 0 → take (k + 1) (set xs k x) ≡ take (k + 1) ns
taken_more xs ns k x less few h e = grind (arith, take_more_set, take_one)

-- all were written
pub all_taken : (xs ns ks : List ℕ) (k : ℕ) → k ≡ length xs → length ns ≡ length xs →
    take k xs ≡ take k (ns ++ ks) → xs ≡ ns
all_taken xs ns ks k e long h = grind (arith, take_all, take-append_seam)

-- ---- numbers that rise

pub rising_differ : (xs : List ℕ) → IsStrictlyIncreasing xs → AreDistinct xs
rising_differ xs h = grind (arith, IsDistinct-from_sorted, sorted_from_strictly_increasing)

-- a number that comes twice
pub twice : (xs : List ℕ) (i j : ℕ) → i < j → j < length xs → get_or xs i 0 ≡ get_or xs j 0 →
    ¬ (AreDistinct xs)
twice xs i j less far e d = true≢false
    (sym (laws.refl (get_or xs i 0)) ∙ ap (same (get_or xs i 0)) e
    ∙ apart_from_distinct same xs i j 0 d less far)
