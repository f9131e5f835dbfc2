-- The numbers of words, and how they are computed.
use Rattle.std.proofs.Common.{◌≡◌, ℕ, zero, suc, ◌+◌, ◌-◌, ◌*◌, ◌/◌, ◌%◌, ◌^◌, ◌<◌, ◌≤◌, true, [], ◌∷◌, length, map, get_or, take, drop, replicate, ◌++◌, bit_or, refl, sym, ap, ◌∙◌, subst, arith, pow-suc}
use Rattle.std.specs.Int.{w64, swap_bytes, from_be_bytes, from_le_bytes}
use Rattle.std.proofs.Math.Seq.{take-append_seam}
use Rattle.std.proofs.lemmas.Bool.{and_parts}
use Rattle.std.proofs.lemmas.Nat.{le_bytes_8, or_block, or_of_8, pow-add}
use Rattle.std.proofs.Math.Nat.{mul-add-div_right, mul-le-mul_right, zero-mul, mul_assoc, add-mul, div-eq_of_lt, mod-eq_of_lt}
use Rattle.std.specs.List.{take-map}
use Rattle.std.proofs.lemmas.List.{length-append, length-replicate, get_or-drop}
use Rattle.iloc_spec_grammar.specs.Syntax.{Text, UnicodeKey, TransformKey, IsWord, letters_or_digits, lower}
use Rattle.iloc_spec_grammar.proofs.WordsLaws.{length-unicode_key, length-transform_key, word_letters_or_digits}
use Rattle.iloc_tinystr.specs.Number.{number}
use Rattle.iloc_pieces.proofs.WordBytes.{low_bit}
use Rattle.iloc_pieces.specs.Words.{IsUpToEight, high_first, word_number}

-- ---- eight bytes as one number

abbrev pub Bytes : Text → Type 0
Bytes p = (i : ℕ) → get_or p i 0 < 256

-- parts of bytes are bytes
pub bytes_take : (k : ℕ) (p : Text) → Bytes p → Bytes (take k p)
bytes_take zero p h i = omega arith
bytes_take (suc k) [] h i = h i
bytes_take (suc k) (b ∷ p) h zero = h 0
bytes_take (suc k) (b ∷ p) h (suc i) = bytes_take k p (λ j. h (suc j)) i

pub bytes_drop : (k : ℕ) (p : Text) → Bytes p → Bytes (drop k p)
bytes_drop k p h i = grind (arith, get_or-drop)

-- eight bytes, the first highest
pub highest_first : (z : Text) → length z ≡ 8
    → get_or z 0 0 * 72057594037927936 + get_or z 1 0 * 281474976710656 + get_or z 2 0 * 1099511627776
    + get_or z 3 0 * 4294967296 + get_or z 4 0 * 16777216 + get_or z 5 0 * 65536
    + get_or z 6 0 * 256 + get_or z 7 0 ≡ high_first 8 z
unfolding high_first
highest_first z h = grind arith

-- or the first lowest, swapped
swapped : (z : Text) → length z ≡ 8 → Bytes z → swap_bytes w64 (number z) ≡ high_first 8 z
unfolding high_first
swapped (a ∷ b ∷ c ∷ d ∷ e ∷ f ∷ g ∷ h ∷ []) long small =
    let bs : Text = a ∷ b ∷ c ∷ d ∷ e ∷ f ∷ g ∷ h ∷ [] in
    let low : number bs % 2 ^ 64 ≡ from_le_bytes w64 bs =
    omega (arith, small 0, small 1, small 2, small 3, small 4, small 5, small 6, small 7) in
    let fits : number bs < 2 ^ 64 =
    omega (arith, small 0, small 1, small 2, small 3, small 4, small 5, small 6, small 7) in
    ap (swap_bytes w64) (sym (mod-eq_of_lt fits)) ∙ ap (from_be_bytes w64) (le_bytes_8 bs _ refl small low)
    ∙ omega arith
swapped z long small = absurd (omega arith)

-- ---- the first of them, with zeros behind

pub pow_some : (n : ℕ) → 0 < 256 ^ n
pow_some zero = omega arith
pow_some (suc n) = omega (arith, pow-suc 256 n, pow_some n)

pub number_fits : (n : ℕ) (p : Text) → Bytes p → high_first n p < 256 ^ n
unfolding high_first
number_fits zero p h = omega arith
number_fits (suc n) [] h = pow_some (suc n)
number_fits (suc n) (b ∷ p) h =
    let few : b ≤ 255 = omega (arith, h 0) in
    omega (arith, pow-suc 256 n, number_fits n p (λ i. h (suc i)), mul-le-mul_right (256 ^ n) few)

no_bytes : (n : ℕ) → high_first n [] ≡ 0
unfolding high_first
no_bytes zero = refl
no_bytes (suc n) = refl

nothing_left : (n k : ℕ) → n < k → n / k * k ≡ 0
nothing_left n k l = grind (arith, div-eq_of_lt, zero-mul)

split_power : (m n : ℕ) → n ≤ m → 256 ^ m ≡ 256 ^ n * 256 ^ (m - n)
split_power m n l = grind (arith, pow-add)

cut_number : (m n : ℕ) (p : Text) → n ≤ m → Bytes p
    → high_first m p / 256 ^ (m - n) * 256 ^ (m - n) ≡ high_first m (take n p)
unfolding high_first
cut_number m zero p l h = grind (arith, nothing_left, number_fits, no_bytes)
cut_number zero (suc n) p l h = absurd (omega arith)
cut_number (suc m) (suc n) [] l h = grind (arith, nothing_left, pow_some)
cut_number (suc m) (suc n) (b ∷ p) l h =
    let k : ℕ = 256 ^ (m - n) in
    let same : suc m - suc n ≡ m - n = omega arith in
    let first : b * 256 ^ m ≡ b * 256 ^ n * k =
    ap (λ w. b * w) (split_power m n (omega arith)) ∙ sym (mul_assoc b (256 ^ n) k) in
    let rest : (b * 256 ^ n * k + high_first m p) / k ≡ b * 256 ^ n + high_first m p / k =
    mul-add-div_right (pow_some (m - n)) (b * 256 ^ n) (high_first m p) in
    (λ j. (first j + high_first m p) / 256 ^ same j * 256 ^ same j) ∙ ap (λ w. w * k) rest
    ∙ add-mul (b * 256 ^ n) (high_first m p / k) k
    ∙ (λ j. sym first j + cut_number m n p (omega arith) (λ i. h (suc i)) j)

-- ---- the number of a word

low_bits : (p : Text) → letters_or_digits p ≡ true → map (λ b. bit_or b 32) p ≡ lower p
unfolding lower
low_bits [] h = refl
low_bits (b ∷ p) h = let parts = and_parts _ _ h in λ j. low_bit b parts.0 j ∷ low_bits p parts.1 j

bytes_or : (p : Text) → Bytes p → Bytes (map (λ b. bit_or b 32) p)
bytes_or [] h i = h i
bytes_or (b ∷ p) h zero = or_of_8 b 32 (h 0) (omega arith)
bytes_or (b ∷ p) h (suc i) = bytes_or p (λ j. h (suc j)) i

fits_replicate : (n c : ℕ) → c < 256 → Bytes (replicate n c)
fits_replicate zero c l i = omega arith
fits_replicate (suc n) c l zero = l
fits_replicate (suc n) c l (suc i) = fits_replicate n c l i

power_of : (k : ℕ) → 2 ^ (8 * k) ≡ 256 ^ k
power_of zero = refl
power_of (suc k) =
    let more : 8 * suc k ≡ 8 + 8 * k = omega arith in grind (arith, pow-add, power_of k, pow-suc)

-- bit 5 of each byte
or_bytes : (n : ℕ) (z : Text) → length z ≡ n → Bytes z
    → bit_or (high_first n z) (high_first n (replicate n 32)) ≡ high_first n (map (λ b. bit_or b 32) z)
unfolding high_first
or_bytes zero [] long small = refl
or_bytes zero (b ∷ z) long small = absurd (omega arith)
or_bytes (suc n) [] long small = absurd (omega arith)
or_bytes (suc n) (b ∷ z) long small =
    let rest : Bytes z = λ i. small (suc i) in
    let spaces : Bytes (replicate n 32) = fits_replicate n 32 (omega arith) in
    let x : high_first n z < 2 ^ (8 * n) =
    subst (λ (k : ℕ). high_first n z < k) (sym (power_of n)) (number_fits n z rest) in
    let y : high_first n (replicate n 32) < 2 ^ (8 * n) =
    grind (arith, power_of, number_fits) in
    (grind (arith, bit_or, power_of))
    ∙ or_block (8 * n) b 32 (high_first n z) (high_first n (replicate n 32)) x y
    ∙ (λ j. bit_or b 32 * power_of n j + or_bytes n z (omega arith) rest j)

-- the number of eight bytes with bit 5, cut behind n letters and digits
pub number_is : (z : Text) (n x : ℕ) → length z ≡ 8 → n ≤ 8 → Bytes z → letters_or_digits (take n z) ≡ true
    → x ≡ high_first 8 z
    → bit_or x 2314885530818453536 / 2 ^ (64 - 8 * n) * 2 ^ (64 - 8 * n) % 2 ^ 64 ≡ word_number (take n z)
unfolding word_number high_first
number_is z n x long few small word e =
    let low = map (λ b. bit_or b 32) z in
    let bytes : Bytes low = bytes_or z small in
    let eight : bit_or x 2314885530818453536 ≡ high_first 8 low =
    ap (λ k. bit_or k 2314885530818453536) e ∙ or_bytes 8 z long small in
    let bits : 64 - 8 * n ≡ 8 * (8 - n) = omega arith in
    let power : 2 ^ (64 - 8 * n) ≡ 256 ^ (8 - n) = ap (λ j. 2 ^ j) bits ∙ power_of (8 - n) in
    let first : take n low ≡ lower (take n z) = take-map (λ b. bit_or b 32) n z ∙ low_bits (take n z) word in
    let cut : high_first 8 low / 256 ^ (8 - n) * 256 ^ (8 - n) ≡ high_first 8 (lower (take n z)) =
    cut_number 8 n low few bytes ∙ ap (high_first 8) first in
    let fits : high_first 8 (lower (take n z)) < 2 ^ 64 =
    subst (λ (p : Text). high_first 8 p < 256 ^ 8) first
    (number_fits 8 (take n low) (bytes_take n low bytes)) in
    (λ j. eight j / power j * power j % 2 ^ 64) ∙ ap (λ m. m % 2 ^ 64) cut ∙ mod-eq_of_lt fits

-- zeros behind fewer bytes
no_number : (k : ℕ) → number (replicate k 0) ≡ 0
no_number zero = refl
no_number (suc k) = ap (λ m. 0 + 256 * m) (no_number k)

number-zeros : (p : Text) (k : ℕ) → number (p ++ replicate k 0) ≡ number p
number-zeros [] k = no_number k
number-zeros (b ∷ p) k = grind (arith, number-zeros p k)

bytes_zeros : (p : Text) (k : ℕ) → Bytes p → Bytes (p ++ replicate k 0)
bytes_zeros [] k h i = fits_replicate k 0 (omega arith) i
bytes_zeros (b ∷ p) k h zero = h 0
bytes_zeros (b ∷ p) k h (suc i) = bytes_zeros p k (λ j. h (suc j)) i

-- the number of a word, the first byte lowest, swapped
pub short_number_is : (p : Text) (x : ℕ) → length p ≤ 8 → Bytes p → letters_or_digits p ≡ true
    → x ≡ swap_bytes w64 (number p)
    → bit_or x 2314885530818453536 / 2 ^ (64 - 8 * length p) * 2 ^ (64 - 8 * length p) % 2 ^ 64
    ≡ word_number p
short_number_is p x few small word e =
    let z : Text = p ++ replicate (8 - length p) 0 in
    let long : length z ≡ 8 =
    omega (
      arith,
      length-append p (replicate (8 - length p) 0),
      length-replicate {A = ℕ} (8 - length p) 0,
    ) in
    let bytes : Bytes z = bytes_zeros p (8 - length p) small in
    let front : take (length p) z ≡ p = take-append_seam p (replicate (8 - length p) 0) in
    grind (arith, number_is, number-zeros, swapped)

-- ---- words that have numbers

pub key_fits : (p : Text) → IsWord UnicodeKey p → IsUpToEight p
key_fits p h = grind (arith, length-unicode_key, word_letters_or_digits)

pub field_key_fits : (p : Text) → IsWord TransformKey p → IsUpToEight p
field_key_fits p h = grind (arith, length-transform_key, word_letters_or_digits)
