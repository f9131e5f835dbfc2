-- A text of at most sixteen bytes in two numbers.
use Rattle.std.proofs.Common.{◌≡◌, ℕ, zero, suc, ◌+◌, ◌-◌, ◌*◌, ◌/◌, ◌^◌, ◌<◌, ◌≤◌, [], ◌∷◌, ◌++◌, length, get_or, take, drop, replicate, refl, sym, ap, ◌∙◌, arith, append_assoc, append-nil}
use Rattle.std.proofs.lemmas.List.{take-append-drop, length-take-le, length-drop, get_or-drop, drop-drop}
use Rattle.std.proofs.Math.Nat.{div-div-eq-div-mul, zero-div}
use Rattle.std.proofs.lemmas.Nat.{pow-add}
use Rattle.iloc_tinystr.specs.Number.{number, bytes}
use Rattle.iloc_tinystr.proofs.RawForms.{bytes-text, Bytes}
use Rattle.iloc_spec_grammar.specs.Syntax.{Text}

-- ---- the number of the bytes after the first

number_drop : (k : ℕ) (xs : Text) → Bytes xs → number xs / 2 ^ (8 * k) ≡ number (drop k xs)
number_drop zero xs h = omega arith
number_drop (suc k) [] h = zero-div (2 ^ (8 * suc k))
number_drop (suc k) (x ∷ xs) h =
    let power : 2 ^ (8 * suc k) ≡ 256 * 2 ^ (8 * k) =
    omega (arith, pow-add 2 8 (8 * k), ap (λ j. 2 ^ j) (turned k)) in
    let rest : (x + 256 * number xs) / 256 ≡ number xs = omega (arith, h 0) in
    grind (arith, div-div-eq-div-mul, number_drop k xs (λ i. h (suc i)))
  where
    turned : (k : ℕ) → 8 * suc k ≡ 8 + 8 * k
    turned k = omega arith

-- of eight bytes, each at its place
pub number_eight : (xs : Text) → length xs ≡ 8
    → get_or xs 0 0 + get_or xs 1 0 * 256 + get_or xs 2 0 * 65536 + get_or xs 3 0 * 16777216
    + get_or xs 4 0 * 4294967296 + get_or xs 5 0 * 1099511627776 + get_or xs 6 0 * 281474976710656
    + get_or xs 7 0 * 72057594037927936
    ≡ number xs
number_eight (a ∷ b ∷ c ∷ d ∷ e ∷ f ∷ g ∷ i ∷ []) h = omega arith
number_eight xs h = absurd (omega arith)

-- the last eight bytes without those that are among the first eight
pub number_rest : (xs last : Text) (n : ℕ) → Bytes xs → 8 < length xs → length xs ≤ 16 →
    last ≡ drop (length xs - 8) xs → n ≡ number last → n / 2 ^ (128 - 8 * length xs) ≡ number (drop 8 xs)
number_rest xs last n h long few e g =
    let k = 16 - length xs in
    let power : 128 - 8 * length xs ≡ 8 * k = omega arith in
    grind (arith, Bytes, get_or-drop, number_drop, drop-drop)

-- ---- the text

fit-take : (k : ℕ) (xs : Text) → Bytes xs → Bytes (take k xs)
fit-take zero xs h i = omega arith
fit-take (suc k) [] h i = h i
fit-take (suc k) (x ∷ xs) h zero = h 0
fit-take (suc k) (x ∷ xs) h (suc i) = fit-take k xs (λ j. h (suc j)) i

front : (xs ys : Text) → take (length xs) (xs ++ ys) ≡ xs
front [] ys = refl
front (x ∷ xs) ys = ap (λ r. x ∷ r) (front xs ys)

whole_bytes : (xs : Text) → Bytes xs → bytes (length xs) (number xs) ≡ xs
whole_bytes xs h = let none : length xs ≡ length xs + 0 = omega arith in
    ap (λ k. bytes k (number xs)) none ∙ bytes-text xs 0 h ∙ append-nil xs

short_bytes : (xs : Text) → Bytes xs → length xs ≤ 8 →
    bytes 8 (number xs) ≡ xs ++ replicate (8 - length xs) 0
short_bytes xs h few = let all : length xs + (8 - length xs) ≡ 8 = omega arith in
    ap (λ k. bytes k (number xs)) (sym all) ∙ bytes-text xs (8 - length xs) h

pub short_text : (xs : Text) (low : ℕ) (zs : Text) → Bytes xs → length xs ≤ 8 → low ≡ number xs →
    take (length xs) (bytes 8 low ++ zs) ≡ xs
short_text xs low zs h few e = grind (arith, short_bytes, append_assoc, front)

pub long_text : (xs : Text) (low high : ℕ) → Bytes xs → 8 ≤ length xs → length xs ≤ 16 →
    low ≡ number (take 8 xs) → high ≡ number (drop 8 xs) → take (length xs) (bytes 8 low ++ bytes 8 high) ≡ xs
long_text xs low high h long few e g =
    let first : length (take 8 xs) ≡ 8 = length-take-le 8 xs long in
    let rest : length (drop 8 xs) ≤ 8 = omega (arith, length-drop 8 xs) in
    let small : Bytes (drop 8 xs) = λ i. rw (get_or-drop 8 xs i 0) (h (8 + i)) in
    let low_is : bytes 8 low ≡ take 8 xs = ap (bytes 8) e ∙ ap (λ k. bytes k (number (take 8 xs))) (sym first)
    ∙ whole_bytes (take 8 xs) (fit-take 8 xs h) in
    grind (arith, short_bytes, append_assoc, take-append-drop, front)
