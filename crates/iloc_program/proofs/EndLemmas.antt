-- The first LF, by masks of some bytes.
use Rattle.std.proofs.Common.{◌≡◌, ◌≢◌, suc, ◌++◌, ◌∷◌, None, ℕ, ◌^◌, ◌<◌, ◌≤◌, Bool, true, false, not, length, map, get_or, take, drop, ◌+◌, ◌-◌, sym, ap, ◌∙◌, subst, arith, inl, inr, Some}
use Rattle.std.specs.List.{prefix_len}
use Rattle.std.proofs.lemmas.Bool.{false≢true, cases_lt}
use Rattle.std.proofs.lemmas.List.{get_or-take, get_or-drop, length-drop, length-take-le, length-map}
use Rattle.std.proofs.lemmas.List.Sums.{prefix_len_passes, prefix_len_stops}
use Rattle.std.proofs.lemmas.Nat.Bits.{bit_at-trailing_zeros, bit_at_above}
use Rattle.std.proofs.lemmas.Simd.{leading_from_mask_l, trailing_mask_l, mask_l-lt}
use lib.Count.{count_trailing_zeros}
use lib.Lanes.{mask_l}
use mir.Syntax.{w64}
use Rattle.std.proofs.Math.Seq.{split_at}
use Rattle.std.proofs.lemmas.Bool.Decides.{nat_tests}
use Rattle.std.proofs.lemmas.List.Elements.{All-from_get_or}
use Rattle.iloc_program.specs.Lines.{IsLineEnd, IsOneLine}
use Rattle.memchr.specs.Find.{IsFirstByte, Nowhere, Passes, NoneBefore, is_byte}
use Rattle.iloc_spec_grammar.specs.Syntax.{Text}
use Rattle.iloc_pieces.proofs.FrontLemmas.{is_no, is_yes}

-- where fewer than n of the first n bytes come before the first that passes, it stands after these
pub first_passes : (p : ℕ → Bool) (hay : Text) (n k : ℕ) → n ≤ length hay →
    k ≡ prefix_len (λ b. not (p b)) (take n hay) → k < n
    → length (take n hay) ≡ n → NoneBefore (Passes p hay) 0 (length hay) k × Passes p hay k
first_passes p hay n k within e few long =
    let q = λ (b : ℕ). not (p b) in
    let there : prefix_len q (take n hay) < length (take n hay) = omega arith in
    let here : p (get_or hay k 0) ≡ true =
    ap p (sym (get_or-take n hay k 0 few)) ∙ ap (λ i. p (get_or (take n hay) i 0)) e
    ∙ is_yes _ (prefix_len_stops q (take n hay) 0 there) in (
      record {
        low = omega arith;
        high = omega arith;
        before = λ i low less passes.
            let early : i < prefix_len q (take n hay) = omega arith in
            let small : i < n = omega arith in
            let none : p (get_or hay i 0) ≡ false = ap p (sym (get_or-take n hay i 0 small))
            ∙ is_no _ (prefix_len_passes q (take n hay) i 0 early) in
            absurd (false≢true (sym none ∙ passes));
      },
      here,
    )

module _ (n : ℕ) (hay : Text) (long : n ≤ length hay) (few : n ≤ 64) (fits : 2 ^ n ≤ 2 ^ 64) where
  abbrev front : Text
  front = take n hay

  size : length front ≡ n
  size = length-take-le n hay long

  -- a mask of so many bytes that is not empty has its lowest bit where the first LF stands
  pub first_end : (m : ℕ) → m ≡ mask_l (map (is_byte 10) front) → 0 < m →
      IsFirstByte (is_byte 10) hay (Some (count_trailing_zeros 64 m))
  first_end m e some =
      let p = is_byte 10 in
      let lanes : length (map p front) ≡ n = length-map front p ∙ size in
      let below : mask_l (map p front) < 2 ^ n =
      subst (λ (k : ℕ). mask_l (map p front) < 2 ^ k) lanes (mask_l-lt (map p front)) in
      let small : m < 2 ^ n = omega arith in
      let place = count_trailing_zeros 64 m in
      let lowest = bit_at-trailing_zeros w64 m some (omega arith) in
      let within : place < n = elim (cases_lt place n) [
        | inl less ↦ less
        | inr more ↦ absurd (omega (arith, lowest.1, bit_at_above m n place small more))
      ] in
      first_passes p hay n place long
      (ap (count_trailing_zeros 64) e
      ∙ trailing_mask_l p 64 front (omega (arith, size)) (subst (λ (k : ℕ). 0 < k) e some)) within size

-- where the mask of the first n is empty, none of them passes
pub none_passes : (p : ℕ → Bool) (hay : Text) (n : ℕ) → n ≤ length hay → mask_l (map p (take n hay)) ≡ 0 →
    Nowhere (Passes p hay) 0 n
none_passes p hay n within e i low less passes =
    let q = λ (b : ℕ). not (p b) in
    let all : prefix_len q (take n hay) ≡ length (take n hay) = leading_from_mask_l p (take n hay) e in
    let there : i < prefix_len q (take n hay) = omega (arith, all, length-take-le n hay within) in
    let none : p (get_or hay i 0) ≡ false =
    ap p (sym (get_or-take n hay i 0 less)) ∙ is_no _ (prefix_len_passes q (take n hay) i 0 there) in
    false≢true (sym none ∙ passes)

-- the first that passes in what follows, where none does before
later_passes : (p : ℕ → Bool) (hay part : Text) (at k : ℕ) → Nowhere (Passes p hay) 0 at →
    length hay ≡ at + length part → ((i : ℕ) → i < length part → get_or part i 0 ≡ get_or hay (at + i) 0)
    → NoneBefore (Passes p part) 0 (length part) k × Passes p part k →
    NoneBefore (Passes p hay) 0 (length hay) (at + k) × Passes p hay (at + k)
later_passes p hay part at k none long same f = (
  record {
    low = omega arith;
    high = omega (arith, f.0.high);
    before = λ i low less passes. elim (cases_lt i at) [
      | inl early ↦ none i low early passes
      | inr late ↦
          let there : at + (i - at) ≡ i = omega arith in
          let inside : i - at < length part = omega (arith, f.0.high) in
          f.0.before (i - at) (omega arith) (omega arith)
          (ap p (same (i - at) inside ∙ ap (λ j. get_or hay j 0) there) ∙ passes)
    ];
  },
  ap p (sym (same k f.0.high)) ∙ f.1,
)

-- the first LF, by a mask of the n bytes that follow, where none comes before
pub later_end : (at n : ℕ) (hay : Text) → at + n ≤ length hay → n ≤ 64 → 2 ^ n ≤ 2 ^ 64 →
    Nowhere (Passes (is_byte 10) hay) 0 at
    → (m : ℕ) → m ≡ mask_l (map (is_byte 10) (take n (drop at hay))) → 0 < m →
    IsFirstByte (is_byte 10) hay (Some (at + count_trailing_zeros 64 m))
later_end at n hay long few fits none m e some =
    let size : length (drop at hay) ≡ length hay - at = length-drop at hay in
    later_passes (is_byte 10) hay (drop at hay) at (count_trailing_zeros 64 m) none (omega (arith, size))
    (λ i less. get_or-drop at hay i 0) (first_end n (drop at hay) (omega (arith, size)) few fits m e some)

-- where that mask is empty too, none is among all of them
pub none_later : (p : ℕ → Bool) (at n : ℕ) (hay : Text) → at + n ≤ length hay →
    Nowhere (Passes p hay) 0 at → mask_l (map p (take n (drop at hay))) ≡ 0
    → Nowhere (Passes p hay) 0 (at + n)
none_later p at n hay long none e i low less passes = elim (cases_lt i at) [
  | inl early ↦ none i low early passes
  | inr late ↦
      let there : at + (i - at) ≡ i = omega arith in
      none_passes p (drop at hay) n (omega (arith, length-drop at hay)) e (i - at) (omega arith) (omega arith)
      (ap p (get_or-drop at hay (i - at) 0 ∙ ap (λ j. get_or hay j 0) there) ∙ passes)
]

-- ---- where the line ends

none_before : (hay : Text) (k : ℕ) → k ≤ length hay → Nowhere (Passes (is_byte 10) hay) 0 k →
    IsOneLine (take k hay)
none_before hay k within none =
    All-from_get_or (λ c. c ≢ 10) (take k hay) 0
    (λ i less e.
    let small : i < k = omega (arith, length-take-le k hay within) in
    none i (omega arith) small (ap (is_byte 10) (sym (get_or-take k hay i 0 small) ∙ e)))

-- the first LF ends it
pub end_there : (hay : Text) (k : ℕ) → IsFirstByte (is_byte 10) hay (Some k) → IsLineEnd hay k
end_there hay k f = record {
  within = omega (arith, f.0.high);
  before = none_before hay k (omega (arith, f.0.high)) f.0.before;
  newline = λ less. split_at hay k 0 less ∙ (λ j. take k hay ++ is j ∷ drop (next j) hay);
}
  where
    is : get_or hay k 0 ≡ 10
    is = let p : is_byte 10 (get_or hay k 0) ≡ true = f.1 in grind (arith, nat_tests)

    next : suc k ≡ k + 1
    next = omega arith

pub end_nowhere : (hay : Text) → IsFirstByte (is_byte 10) hay None → IsLineEnd hay (length hay)
end_nowhere hay none = record {
  within = omega arith;
  before = none_before hay (length hay) (omega arith) none;
  newline = λ less. absurd (omega arith);
}
