-- A short piece after a hyphen, and what follows it.
use Rattle.std.proofs.Common.{◌≡◌, ℕ, zero, suc, ◌+◌, ◌-◌, ◌%◌, ◌<◌, ◌≤◌, List, [], ◌∷◌, ◌++◌, length, take, drop, map, get_or, refl, sym, ap, ◌∙◌, arith, length-append}
use Rattle.std.specs.Prelude.{All}
use Rattle.std.proofs.lemmas.List.Elements.{All-cons, All-map}
use Rattle.std.proofs.lemmas.List.{get_or-append_right}
use Rattle.std.proofs.Math.Nat.{mod-eq_of_lt, mod-lt}
use Rattle.std.proofs.Math.Seq.{take-append-add}
use Rattle.std.proofs.lemmas.Str.{IsUtf8-from_ascii}
use Rattle.std.proofs.lemmas.Str.Ascii.{IsAscii-from_all}
use Rattle.std.specs.Str.{IsUtf8}

module _ (padded all : List ℕ) (len : ℕ) (is : all ≡ 45 ∷ padded) where
  pub after_one : take ((1 + len) - 1) (drop 1 all) ≡ take len padded
  after_one = let n : (1 + len) - 1 ≡ len = omega arith in λ i. take (n i) (drop 1 (is i))

  pub from_start : take (1 + len) all ≡ 45 ∷ take len padded
  from_start = let n : 1 + len ≡ suc len = omega arith in λ i. take (n i) (is i)

pub ascii_text : (piece : List ℕ) → All (λ b. b < 128) piece → IsUtf8 piece
ascii_text piece h = IsUtf8-from_ascii piece (IsAscii-from_all piece h)

pub hyphen_ascii : (piece : List ℕ) → All (λ b. b < 128) piece → All (λ b. b < 128) (45 ∷ piece)
hyphen_ascii piece h = All-cons (λ b. b < 128) 45 piece (omega arith) h

pub hyphen_text : (piece : List ℕ) → All (λ b. b < 128) piece → IsUtf8 (45 ∷ piece)
hyphen_text piece h = ascii_text (45 ∷ piece) (hyphen_ascii piece h)

pub low_ascii : (bytes : List ℕ) → All (λ b. b < 128) (map (λ b. b % 128) bytes)
low_ascii bytes = All-map (λ b. b < 128) (λ b. b % 128) bytes (λ k d h. mod-lt _ (omega arith))

-- bytes that are ASCII stay
pub low_same : (n : ℕ) (bytes : List ℕ) → All (λ b. b < 128) (take n bytes) →
    take n (map (λ b. b % 128) bytes) ≡ take n bytes
low_same zero bytes h = refl
low_same (suc n) [] h = refl
low_same (suc n) (b ∷ bytes) h =
    let e : b % 128 ≡ b = mod-eq_of_lt (h 0 0 (omega arith)) in
    let more = low_same n bytes (λ k d lt. h (suc k) d (omega (arith, lt))) in
    ap (λ x. x ∷ take n (map (λ b. b % 128) bytes)) e ∙ ap (λ l. b ∷ l) more

-- bytes of which the first were there before
module _ (front piece : List ℕ) (n : ℕ) (size : length front ≡ n) where
  pub front_taken : (count : ℕ) → take (n + count) (front ++ piece) ≡ front ++ take count piece
  front_taken count =
      ap (λ m. take (m + count) (front ++ piece)) (sym size) ∙ take-append-add front piece count

  pub front_ends : (i : ℕ) → n ≤ i → All (λ b. b < 128) piece → i < length (front ++ piece) →
      get_or (front ++ piece) i 0 < 128
  front_ends i above ascii within =
      let e : get_or (front ++ piece) i 0 ≡ get_or piece (i - n) 0 =
      get_or-append_right front piece n i 0 size above in
      let l : length (front ++ piece) ≡ length front + length piece = length-append front piece in
      let low : get_or piece (i - n) 0 < 128 = ascii (i - n) 0 (omega arith) in
      omega (arith, e, low)
