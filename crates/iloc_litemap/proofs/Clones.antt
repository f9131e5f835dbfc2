-- Clones of maps.
use Rattle.std.proofs.Common.{◌≡◌, ◌&&◌, List, [], ◌∷◌, refl, ap, ap₂, ◌∙◌}
use Rattle.std.specs.declared.cmp.Ordering.{Ordering}
use Rattle.std.specs.FinMap.{is_sorted}
use Rattle.std.specs.FinMap.Entries.{below_all}
use Rattle.std.specs.List.{AllZip}
use Rattle.std.specs.Ordering.{is_lt}
use Rattle.iloc_litemap.specs.Pairs.{HasAscendingKeys}
use Rattle.iloc_copying.proofs.Clones.{equal_of_clones}

module _ {K V : Type 0} (ClonesV : V → V → Type 0) where
  -- the same key with a clone of the value
  abbrev pub ClonedValue : K × V → K × V → Type 0
  ClonedValue p q = (q.0 ≡ p.0) × ClonesV p.1 q.1

  -- where a key's clone equals the key, a list of clones has the same keys
  pub same_keys : (ClonesK : K → K → Type 0) → ((k c : K) → ClonesK k c → c ≡ k) → (xs ys : List (K × V)) →
      AllZip (λ p q. ClonesK p.0 q.0 × ClonesV p.1 q.1) xs ys → AllZip ClonedValue xs ys
  same_keys ClonesK same [] [] h = h
  same_keys ClonesK same [] (y ∷ ys) h = absurd h
  same_keys ClonesK same (x ∷ xs) [] h = absurd h
  same_keys ClonesK same (x ∷ xs) (y ∷ ys) ((k, v), t) =
      ((same x.0 y.0 k, v), same_keys ClonesK same xs ys t)

  below_alike : (cmp : K → K → Ordering) (x : K) (xs ys : List (K × V)) → AllZip ClonedValue xs ys →
      below_all cmp x ys ≡ below_all cmp x xs
  below_alike cmp x [] [] h = refl
  below_alike cmp x [] (f ∷ fs) h = absurd h
  below_alike cmp x (e ∷ es) [] h = absurd h
  below_alike cmp x (e ∷ es) (f ∷ fs) ((k, v), t) =
      ap₂ (λ a b. is_lt (cmp x a) && b) k (below_alike cmp x es fs t)

  sorted_alike : (cmp : K → K → Ordering) (xs ys : List (K × V)) → AllZip ClonedValue xs ys →
      is_sorted cmp ys ≡ is_sorted cmp xs
  sorted_alike cmp [] [] h = refl
  sorted_alike cmp [] (f ∷ fs) h = absurd h
  sorted_alike cmp (e ∷ es) [] h = absurd h
  sorted_alike cmp (e ∷ es) (f ∷ fs) ((k, v), t) =
      ap₂ (λ a b. a && b) (ap (λ x. below_all cmp x fs) k ∙ below_alike cmp e.0 es fs t)
      (sorted_alike cmp es fs t)

  -- so its keys ascend where those of the list do
  pub still_ascend : (cmp : K → K → Ordering) (xs ys : List (K × V)) → AllZip ClonedValue xs ys →
      HasAscendingKeys cmp xs → HasAscendingKeys cmp ys
  still_ascend cmp xs ys h s = sorted_alike cmp xs ys h ∙ s

  -- where a value's clone equals the value too, it equals the list
  pub equal_of_cloned : ((v c : V) → ClonesV v c → c ≡ v) → (xs ys : List (K × V)) →
      AllZip ClonedValue xs ys → ys ≡ xs
  equal_of_cloned same = equal_of_clones ClonedValue (λ p q h. ap₂ (λ k v. (k, v)) h.0 (same p.1 q.1 h.1))
