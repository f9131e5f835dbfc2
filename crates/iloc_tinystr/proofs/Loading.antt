-- The number of a piece, and the piece of a text's number.
use Rattle.std.proofs.Common.{◌≡◌, ℕ, zero, suc, ◌+◌, ◌-◌, ◌*◌, ◌/◌, ◌%◌, ◌^◌, ◌<◌, ◌≤◌, true, get_or, List, [], ◌∷◌, length, refl, ◌∙◌, ap, arith, pow-suc, bit_or}
use Rattle.std.specs.Int.Count.{count_leading_zeros}
use Rattle.std.specs.Int.Bits.{or_self, or_zero_l, or_zero_r}
use Rattle.std.proofs.lemmas.Nat.{leading_length, pow-add, pow_pos, or_block}
use Rattle.std.specs.List.{list_all}
use Rattle.iloc_tinystr.specs.Number.{number, bytes, IsPacked}
use Rattle.iloc_tinystr.specs.TinyText.{is_text_byte}
use Rattle.iloc_tinystr.proofs.ByBytes.{number-bytes, length_bytes, bytes-number}
use Rattle.iloc_tinystr.proofs.Packed.{number-lt, makes, same_power, le_power, lt_power}

module _ (xs : List ℕ) (y : ℕ) (fit : (k : ℕ) → get_or xs k 0 < 256) (few : length xs ≤ 8)
    (e : y ≡ number xs) where
  pub piece_word : IsPacked (length xs) y
  piece_word = (makes (length xs) y xs refl few fit e).word

  pub piece_shows : bytes (length xs) y ≡ xs
  piece_shows = (makes (length xs) y xs refl few fit e).shows

-- two numbers with the same middle part m: the first has k bits before it, the second begins with it
in_common : (k j x m y : ℕ) → x < 2 ^ k → m < 2 ^ j → (low high : ℕ) → low ≡ m * 2 ^ k + x →
    high ≡ (y * 2 ^ j + m) * 2 ^ k + 0
    → bit_or low high ≡ (y * 2 ^ j + m) * 2 ^ k + x
in_common k j x m y few less low high p q =
    let alone : m ≡ 0 * 2 ^ j + m = omega arith in
    let same : bit_or m (y * 2 ^ j + m) ≡ y * 2 ^ j + m =
    ap (λ n. bit_or n (y * 2 ^ j + m)) alone ∙ or_block j 0 y m m less less
    ∙ (λ i. or_zero_l y i * 2 ^ j + or_self m i) in
    (λ i. bit_or (p i) (q i)) ∙ or_block k m (y * 2 ^ j + m) x 0 few (pow_pos k)
    ∙ (λ i. same i * 2 ^ k + or_zero_r x i)

-- by its first four bytes and its last
pub wide : (xs : List ℕ) (low high : ℕ) → ((k : ℕ) → get_or xs k 0 < 256) → 4 ≤ length xs → length xs ≤ 8
    → low ≡ get_or xs 0 0 + 256 * get_or xs 1 0 + 65536 * get_or xs 2 0 + 16777216 * get_or xs 3 0
    → high
    ≡ get_or xs (length xs - 4) 0 + 256 * get_or xs (length xs - 3) 0 + 65536 * get_or xs (length xs - 2) 0
    + 16777216 * get_or xs (length xs - 1) 0
    → bit_or low (high * 2 ^ (8 * length xs - 32) % 18446744073709551616) ≡ number xs
wide (a ∷ b ∷ c ∷ d ∷ []) low high h le ge p q =
    in_common 0 32 0 low 0 (omega arith) (omega (arith, h 0, h 1, h 2, h 3)) low _ (omega arith)
    (omega (arith, h 0, h 1, h 2, h 3))
    ∙ omega arith
wide (a ∷ b ∷ c ∷ d ∷ e ∷ []) low high h le ge p q =
    in_common 8 24 a (b + 256 * c + 65536 * d) e (h 0) (omega (arith, h 1, h 2, h 3)) low _ (omega arith)
    (omega (arith, h 1, h 2, h 3, h 4))
    ∙ omega arith
wide (a ∷ b ∷ c ∷ d ∷ e ∷ f ∷ []) low high h le ge p q =
    in_common 16 16 (a + 256 * b) (c + 256 * d) (e + 256 * f) (omega (arith, h 0, h 1))
    (omega (arith, h 2, h 3)) low _ (omega arith) (omega (arith, h 2, h 3, h 4, h 5))
    ∙ omega arith
wide (a ∷ b ∷ c ∷ d ∷ e ∷ f ∷ g ∷ []) low high h le ge p q =
    in_common 24 8 (a + 256 * b + 65536 * c) d (e + 256 * f + 65536 * g) (omega (arith, h 0, h 1, h 2)) (h 3)
    low _ (omega arith) (omega (arith, h 3, h 4, h 5, h 6))
    ∙ omega arith
wide (a ∷ b ∷ c ∷ d ∷ e ∷ f ∷ g ∷ i ∷ []) low high h le ge p q =
    in_common 32 0 low 0 high (omega (arith, h 0, h 1, h 2, h 3)) (omega arith) low _ (omega arith)
    (omega (arith, h 4, h 5, h 6, h 7))
    ∙ omega arith
wide xs low high h le ge p q = absurd (omega arith)

-- by its first two bytes and its last
pub narrow : (xs : List ℕ) (low : ℕ) → ((k : ℕ) → get_or xs k 0 < 256) → 2 ≤ length xs → length xs < 4
    → low ≡ get_or xs 0 0 + 256 * get_or xs 1 0
    → bit_or low (get_or xs (length xs - 1) 0 * 2 ^ (8 * length xs - 8) % 18446744073709551616) ≡ number xs
narrow (a ∷ b ∷ []) low h le few p =
    in_common 8 8 a b 0 (h 0) (h 1) low _ (omega arith) (omega (arith, h 1)) ∙ omega arith
narrow (a ∷ b ∷ c ∷ []) low h le few p =
    in_common 16 0 low 0 c (omega (arith, h 0, h 1)) (omega arith) low _ (omega arith) (omega (arith, h 2))
    ∙ omega arith
narrow xs low h le few p = absurd (omega arith)

pub first-text : (b : ℕ) (text : List ℕ) → list_all is_text_byte (b ∷ text) ≡ true →
    (0 < b) × (b < 128) × (list_all is_text_byte text ≡ true)
first-text b text h = grind arith

pub fit-text : (text : List ℕ) → list_all is_text_byte text ≡ true → (i : ℕ) → get_or text i 0 < 256
fit-text [] h i = omega arith
fit-text (b ∷ text) h zero = omega (arith, (first-text b text h).1)
fit-text (b ∷ text) h (suc i) = fit-text text (first-text b text h).2 i

-- its last byte is not zero
pub number-top : (text : List ℕ) → list_all is_text_byte text ≡ true →
    256 ^ length text ≤ 256 * number text + 1
number-top [] h = omega arith
number-top (b ∷ text) h =
    let t = first-text b text h in
    omega (arith, t.0, number-top text t.2, pow-suc 256 (length text))

len_is : (text : List ℕ) (x : ℕ) → x < 2 ^ 64 → list_all is_text_byte text ≡ true → x ≡ number text →
    (71 - count_leading_zeros 64 x) / 8 ≡ length text
len_is text x small h e =
    let n = length text in
    let t = leading_length 64 x small in
    let fits : number text < 256 ^ n =
    omega (arith, number-lt n (number text), ap number (bytes-number text (fit-text text h))) in
    let low =
    lt_power (8 * n) (t.0 + 8) (omega (arith, t.2, same_power n, number-top text h, pow-add 2 t.0 8)) in
    let high = lt_power t.0 (suc (8 * n)) (omega (arith, t.3, same_power n, pow-suc 2 (8 * n))) in
    omega (arith, t.1)

-- the bytes up to the highest that is not zero are packed
pub is_packed : (x : ℕ) → x < 2 ^ 64 → IsPacked ((71 - count_leading_zeros 64 x) / 8) x
is_packed x small =
    let n = (71 - count_leading_zeros 64 x) / 8 in
    let t = leading_length 64 x small in
    let low : x < 256 ^ n = omega (arith, t.2, same_power n, le_power t.0 (8 * n) (omega (arith, t.1))) in
    record { few = omega arith; counted = length_bytes n x; whole = number-bytes n x low }

-- and those of a text's number are the text
pub shows_text : (text : List ℕ) (x : ℕ) → x < 2 ^ 64 → list_all is_text_byte text ≡ true → x ≡ number text →
    bytes ((71 - count_leading_zeros 64 x) / 8) x ≡ text
shows_text text x small h e =
    (λ i. bytes (len_is text x small h e i) (e i)) ∙ bytes-number text (fit-text text h)
