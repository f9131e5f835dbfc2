-- Items that are moved one further in a list.
use Rattle.std.proofs.Common.{◌≡◌, ℕ, zero, suc, ◌+◌, ◌-◌, ◌<◌, ◌≤◌, List, [], ◌∷◌, ◌++◌, length, take, drop, refl, sym, ap, ◌∙◌, arith, add-one, slice_set, slice_index_or, length-append, append_assoc}
use Rattle.std.proofs.Math.Seq.{drop-cons, take-append_seam, drop-append_seam}
use Rattle.std.proofs.lemmas.List.{length-take-le, length-drop}

-- an item is written where the front ends
pub set_front : {X : Type 0} (us rest : List X) (i : ℕ) (x : X) → i < length us
    → slice_set (take (suc i) us ++ rest) i x ≡ take i us ++ x ∷ rest
set_front [] rest i x l = absurd (omega arith)
set_front (u ∷ us) rest zero x l = refl
set_front (u ∷ us) rest (suc i) x l = ap (λ l. u ∷ l) (set_front us rest i x (omega arith))

-- an item of the front
pub index_front : {X : Type 0} (us rest : List X) (n i : ℕ) (d : X) → i < n → i < length us
    → slice_index_or (take n us ++ rest) i d ≡ slice_index_or us i d
index_front us rest zero i d m l = absurd (omega arith)
index_front [] rest (suc n) i d m l = absurd (omega arith)
index_front (u ∷ us) rest (suc n) zero d m l = refl
index_front (u ∷ us) rest (suc n) (suc i) d m l = index_front us rest n i d (omega arith) (omega arith)

pub take_back : {X : Type 0} (us : List X) (i n : ℕ) (d : X) → i < length us → take (suc n) (drop i us)
    ≡ slice_index_or us i d ∷ take n (drop (suc i) us)
take_back us i n d l = ap (take (suc n)) (drop-cons us i d l)

module _ {X : Type 0} (us : List X) (at made from : ℕ) (d : X) (now : List X) (a : at ≤ from)
    (b : from ≤ made) (c : made < length us)
    (is : now ≡ take (from + 1) us ++ (take (made - from) (drop from us) ++ drop (made + 1) us)) where
  pub moved_one : at < from → slice_set now from (slice_index_or now (from - 1) d)
      ≡ take (from - 1 + 1) us ++ (take (made - (from - 1)) (drop (from - 1) us) ++ drop (made + 1) us)
  moved_one some =
      let back = take (made - from) (drop from us) ++ drop (made + 1) us in
      let one : from + 1 ≡ suc from = add-one from in
      let prior : suc (from - 1) ≡ from = omega arith in
      let more : made - (from - 1) ≡ suc (made - from) = omega arith in
      let same : from - 1 + 1 ≡ from = omega arith in
      let read : slice_index_or now (from - 1) d ≡ slice_index_or us (from - 1) d =
      ap (λ l. slice_index_or l (from - 1) d) is
      ∙ index_front us back (from + 1) (from - 1) d (omega arith) (omega arith) in
      let list : now ≡ take (suc from) us ++ back = is ∙ ap (λ n. take n us ++ back) one in
      let behind : take (made - (from - 1)) (drop (from - 1) us)
      ≡ slice_index_or us (from - 1) d ∷ take (made - from) (drop from us) =
      ap (λ n. take n (drop (from - 1) us)) more ∙ take_back us (from - 1) (made - from) d (omega arith)
      ∙ ap (λ n. slice_index_or us (from - 1) d ∷ take (made - from) (drop n us)) prior in
      (λ j. slice_set (list j) from (read j))
      ∙ set_front us back from (slice_index_or us (from - 1) d) (omega arith)
      ∙ (λ j. take (sym same j) us ++ (sym behind j ++ drop (made + 1) us))

  put_one : (x : X) → from ≤ at → slice_set now at x
      ≡ (take at us ++ x ∷ take (made - at) (drop at us)) ++ drop (made + 1) us
  put_one x done =
      let here : from ≡ at = omega arith in
      let list : now ≡ take (suc at) us ++ (take (made - at) (drop at us) ++ drop (made + 1) us) =
      is ∙ ap (λ n. take n us ++ (take (made - from) (drop from us) ++ drop (made + 1) us)) (add-one from)
      ∙ ap (λ n. take (suc n) us ++ (take (made - n) (drop n us) ++ drop (made + 1) us)) here in
      ap (λ l. slice_set l at x) list
      ∙ set_front us (take (made - at) (drop at us) ++ drop (made + 1) us) at x (omega arith)
      ∙ sym (append_assoc (take at us) (x ∷ take (made - at) (drop at us)) (drop (made + 1) us))

  long : (x : X) → from ≤ at → length (take at us ++ x ∷ take (made - at) (drop at us)) ≡ made + 1
  long x done =
      let n : at ≤ length us = omega arith in
      let m : made - at ≤ length (drop at us) = omega (arith, length-drop at us) in
      omega (
        arith,
        length-append (take at us) (x ∷ take (made - at) (drop at us)),
        length-take-le at us n,
        length-take-le (made - at) (drop at us) m,
      )

  pub put_front : (x : X) → from ≤ at → take (made + 1) (slice_set now at x)
      ≡ take at us ++ x ∷ take (made - at) (drop at us)
  put_front x done =
      let front = take at us ++ x ∷ take (made - at) (drop at us) in
      (λ j. take (sym (long x done) j) (put_one x done j)) ∙ take-append_seam front (drop (made + 1) us)

  pub put_back : (x : X) → from ≤ at → drop (made + 1) (slice_set now at x) ≡ drop (made + 1) us
  put_back x done =
      let front = take at us ++ x ∷ take (made - at) (drop at us) in
      (λ j. drop (sym (long x done) j) (put_one x done j)) ∙ drop-append_seam front (drop (made + 1) us)
