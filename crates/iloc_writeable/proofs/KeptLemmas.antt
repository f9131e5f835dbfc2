-- A piece that is put behind a text that is kept in place.
use Rattle.std.proofs.Common.{◌≡◌, ℕ, suc, ◌+◌, ◌≤◌, List, [], ◌∷◌, ◌++◌, length, take, sym, ap, subst, ◌∙◌, arith, zero-add}
use Rattle.std.specs.Str.{IsUtf8}
use Rattle.std.proofs.lemmas.Str.{IsUtf8-append}
use Rattle.std.proofs.lemmas.List.{take-append-le, length-take-le}
use Rattle.std.proofs.Math.Seq.{take-append_seam}
use borrow.Rule.Slice.PartMut.{put_mid, post_of}

past : (xs ys : List ℕ) (n : ℕ) → take (length xs + n) (xs ++ ys) ≡ xs ++ take n ys
past [] ys n = ap (λ k. take k ys) (zero-add n)
past (x ∷ xs) ys n = let more : suc (length xs) + n ≡ suc (length xs + n) = omega arith in
    ap (λ k. take k (x ∷ (xs ++ ys))) more ∙ ap (λ l. x ∷ l) (past xs ys n)

-- of the bytes that are put behind, those after the piece count for nothing
module _ (at k end : ℕ) (old all piece : List ℕ) (within : at ≤ length old) (few : length piece ≤ length all)
    (front : take (length piece) all ≡ piece) (here : end ≡ at + length piece) where
  pub kept_piece : take end (put_mid at k old all) ≡ take at old ++ piece
  kept_piece =
      let size : length (take at old) ≡ at = length-take-le at old within in
      let there : end ≡ length (take at old) + length piece = omega (arith, here, size) in
      ap (λ n. take n (put_mid at k old all)) there
      ∙ past (take at old) (all ++ post_of at k old) (length piece)
      ∙ ap (λ l. take at old ++ l) (take-append-le (length piece) all (post_of at k old) few ∙ front)

  pub kept_utf8 : IsUtf8 (take at old) → IsUtf8 piece → IsUtf8 (take end (put_mid at k old all))
  kept_utf8 h p = subst IsUtf8 (sym kept_piece) (IsUtf8-append _ _ h p)

pub hyphen_front : (piece zeros all : List ℕ) → all ≡ 45 ∷ (piece ++ zeros) →
    take (length (45 ∷ piece)) all ≡ 45 ∷ piece
hyphen_front piece zeros all e =
    ap (take (suc (length piece))) e ∙ ap (λ l. 45 ∷ l) (take-append_seam piece zeros)

pub whole_front : (n : ℕ) (padded all : List ℕ) → length (take n padded) ≡ n → all ≡ padded →
    take (length (take n padded)) all ≡ take n padded
whole_front n padded all size e = λ i. take (size i) (e i)
