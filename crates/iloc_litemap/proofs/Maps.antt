-- Entries put in one by one make the map of them, where the last of equal keys stays; added one by one, where
-- the first does.
use Rattle.std.proofs.Common.{◌≡◌, Bool, true, false, true≢false, cond, List, [], ◌∷◌, ◌++◌, reverse, suc, ◌+◌, ◌≤◌, length, arith, Option, Some, None, is_some, refl, sym, ap, ap₂, ◌∙◌, append_assoc}
use Rattle.std.specs.declared.cmp.Ordering.{Ordering}
use Rattle.std.specs.declared.cmp.Ordering.TheVariants.{Less, Equal, Greater}
use Rattle.std.specs.Cmp.{IsTotalOrder, Equal-is}
use Rattle.std.specs.FinMap.{put, find, IsAntisymmetric}
use Rattle.std.specs.FinMap.Entries.{below_all, by_order}
use Rattle.std.specs.FinMap.Entries as entries
use Rattle.std.specs.Option.{option_or}
use Rattle.std.specs.Ordering.{is_eq, eq_by_cmp}
use Rattle.std.proofs.lemmas.Bool.{and_parts}
use Rattle.std.proofs.lemmas.List.{reverse-append}
use Rattle.iloc_spec_grammar.specs.Meaning.{map_of}
use Rattle.iloc_spec_grammar.proofs.MapLaws.{less, map_of_sorted, map_of_same, find-map_of}
use Rattle.iloc_spec_grammar.proofs.SetLaws.{find-append}
use Rattle.iloc_litemap.specs.Pairs.{HasAscendingKeys}

-- keys that tie are one
pub tied : {K : Type 0} (R : K → K → Ordering) → IsAntisymmetric R → (q k : K) → eq_by_cmp R q k ≡ true →
    q ≡ k
tied R same q k h = same q k ((Equal-is (R q k)).0 h)

-- a pair that is put in makes at most one more
pub put_one : {K X : Type 0} (R : K → K → Ordering) (k : K) (v : X) (es : List (K × X)) →
    length (put R k v es) ≤ length es + 1
put_one R k v [] = omega arith
put_one R k v (e ∷ es) =
    let later = put_one R k v es in
    elim (R k e.0) as (λ r. length (by_order r ((k, v) ∷ e ∷ es) ((e.0, v) ∷ es) (e ∷ put R k v es))
    ≤ suc (length es) + 1) [
      | Less ↦ omega arith
      | Equal ↦ omega arith
      | Greater ↦ omega (arith, later)
    ]

-- the pairs xs put in one by one, so that the last of equal keys stays
abbrev pub put_all : {K X : Type 0} → (K → K → Ordering) → List (K × X) → List (K × X) → List (K × X)
put_all R es [] = es
put_all R es (x ∷ xs) = put_all R (put R x.0 x.1 es) xs

module _ {K X : Type 0} (R : K → K → Ordering) where
  pub put_next : (all new before now whole : List (K × X)) (k : K) (v : X) → new ≡ put R k v all
      → before ≡ (k, v) ∷ now
      → put_all R all before ≡ whole → put_all R new now ≡ whole
  put_next all new before now whole k v n b h = ap (λ ps. put_all R ps now) n
      ∙ (ap (put_all R all) (sym b) ∙ h)

  pub put_last : (all before whole : List (K × X)) → before ≡ [] → put_all R all before ≡ whole → all ≡ whole
  put_last all before whole b h = ap (put_all R all) (sym b) ∙ h

  put_over : (es fs : List (K × X)) → put_all R (map_of R es) fs ≡ map_of R (reverse fs ++ es)
  put_over es [] = refl
  put_over es (f ∷ fs) = put_over (f ∷ es) fs
      ∙ ap (map_of R)
      (sym (append_assoc (reverse fs) (f ∷ []) es) ∙ ap (λ l. l ++ es) (sym (reverse-append (f ∷ []) fs)))

  pub put_all_over : (es fs : List (K × X)) → HasAscendingKeys R es →
      put_all R es fs ≡ map_of R (reverse fs ++ es)
  put_all_over es fs s = ap (λ m. put_all R m fs) (sym (map_of_sorted R es s)) ∙ put_over es fs

  -- a key below all others is none of them
  absent : (k : K) (es : List (K × X)) → below_all R k es ≡ true → find R k es ≡ None
  absent k [] b = refl
  absent k (e ∷ es) b = let parts = and_parts _ _ b in
      ap₂ (λ r o. cond (is_eq r) (Some e.1) o) (less _ parts.0) (absent k es parts.1)

  -- a key that is there hides what comes after
  hidden : (b : Bool) (o : Option X) (v : X) → (b ≡ true → is_some o ≡ true) →
      option_or o (cond b (Some v) None) ≡ o
  hidden true None v h = absurd (true≢false (sym (h refl)))
  hidden false None v h = refl
  hidden b (Some x) v h = refl

  -- a key that isn't there is added
  shown : (b : Bool) (o : Option X) (v : X) → (b ≡ true → is_some o ≡ false) →
      option_or o (cond b (Some v) None) ≡ cond b (Some v) o
  shown true None v h = refl
  shown false None v h = refl
  shown true (Some x) v h = absurd (true≢false (h refl))
  shown false (Some x) v h = refl

  module _ (total : IsTotalOrder R) where
    find-reverse : (q : K) (es : List (K × X)) → HasAscendingKeys R es → find R q (reverse es) ≡ find R q es
    find-reverse q [] s = refl
    find-reverse q (e ∷ es) s =
        let parts = and_parts _ _ s in
        ap (find R q) (reverse-append (e ∷ []) es)
        ∙ entries.find-append R total (reverse es) e.0 e.1 q
        (find-reverse e.0 es parts.1 ∙ absent e.0 es parts.0)
        ∙ ap (cond (eq_by_cmp R q e.0) (Some e.1)) (find-reverse q es parts.1)

    module _ (same : IsAntisymmetric R) where
      -- a map put over another: its entries win, in whatever order they come
      pub reversed_over : (es fs : List (K × X)) → HasAscendingKeys R fs →
          map_of R (reverse fs ++ es) ≡ map_of R (fs ++ es)
      reversed_over es fs s = map_of_same R total same _ _ (λ q. find-append R q (reverse fs) es
          ∙ ap (λ o. option_or o (find R q es)) (find-reverse q fs s) ∙ sym (find-append R q fs es))

      at_last : (es : List (K × X)) (k : K) (v : X) (b : Bool) → is_some (find R k es) ≡ b →
          map_of R (es ++ (k, v) ∷ []) ≡ cond b (map_of R es) (put R k v (map_of R es))
      at_last es k v true h = map_of_same R total same _ _ (λ q. find-append R q es ((k, v) ∷ [])
          ∙ hidden (eq_by_cmp R q k) (find R q es) v
          (λ t. ap (λ x. is_some (find R x es)) (tied R same q k t) ∙ h))
      at_last es k v false h =
          map_of_same R total same (es ++ (k, v) ∷ []) ((k, v) ∷ es) (λ q. find-append R q es ((k, v) ∷ [])
          ∙ shown (eq_by_cmp R q k) (find R q es) v
          (λ t. ap (λ x. is_some (find R x es)) (tied R same q k t) ∙ h))

      -- an entry more is put, unless its key is there
      pub map_of_more : (es : List (K × X)) (k : K) (v : X) →
          map_of R (es ++ (k, v) ∷ [])
          ≡ cond (is_some (find R k (map_of R es))) (map_of R es) (put R k v (map_of R es))
      map_of_more es k v = at_last es k v (is_some (find R k es)) refl
          ∙ ap (λ o. cond (is_some o) (map_of R es) (put R k v (map_of R es)))
          (sym (find-map_of R total k es))
