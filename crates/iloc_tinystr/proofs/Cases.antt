-- A letter is put into case by its bit 5.
use Rattle.std.proofs.Common.{◌≡◌, ℕ, zero, suc, ◌+◌, ◌*◌, ◌/◌, ◌%◌, ◌^◌, ◌<◌, ◌≤◌, Bool, true, false, cond, get_or, map, refl, sym, ◌∙◌, ap, arith, pow-suc}
use Rattle.std.specs.Int.{is_in_range}
use Rattle.std.specs.Int.RustNames.{bit_and, bit_or, bit_xor}
use Rattle.std.proofs.lemmas.List.{length-map, map-id}
use Rattle.std.proofs.lemmas.Nat.{and_le_r, xor_comm}
use Rattle.std.specs.Char.{is_ascii_alphabetic, is_ascii_alphanumeric, to_ascii_lowercase, to_ascii_uppercase}
use Rattle.std.specs.List.{list_all}
use Rattle.std.specs.Cmp.{first_so, second_so}
use Rattle.std.proofs.lemmas.Bool.Decides.{nat_tests}
use Rattle.iloc_tinystr.specs.Number.{number, bytes, flag, flags, spread, IsPacked}
use Rattle.iloc_tinystr.proofs.Titles.{title, length-title}
use Rattle.iloc_tinystr.proofs.ByBytes.{number-bytes, length_bytes, kept, alike, same_bytes, Keeps, Bytewise, itself, alike_made, ands, ors, xors, first_byte, by_byte, of_both}
use Rattle.iloc_tinystr.proofs.Low.{flag-keeps, turned_flags}
use Rattle.iloc_tinystr.proofs.Packed.{below, word-lt, wider, Makes, makes, changed, fit-map}

-- 32 where the test holds
abbrev case_bit : (ℕ → Bool) → ℕ → ℕ
case_bit p b = flag p b / 4

fourth : (t : Bool) → cond t 128 0 ≡ 4 * (cond t 128 0 / 4)
fourth true = refl
fourth false = refl

quarter : (p : ℕ → Bool) (n x : ℕ)
    → number (map (flag p) (bytes n x)) ≡ 4 * number (map (case_bit p) (bytes n x))
unfolding bytes
quarter p zero x = refl
quarter p (suc n) x = grind (arith, fourth, quarter p n (x / 256))

case-keeps : (p : ℕ → Bool) → Keeps (case_bit p)
case-keeps p b l = omega (arith, flag-keeps p b)

case_bits : (p : ℕ → Bool) (x f : ℕ) → f ≡ flags p x → Bytewise x (case_bit p) (f / 4)
unfolding flags
case_bits p x f e = grind (arith, case-keeps, quarter)

-- of a title
fit-title : (n x k : ℕ) → get_or (title (bytes n x)) k 0 < 256
unfolding bytes
fit-title n x k = grind (arith, kept, fit-map)

title_wide : (n x : ℕ) → n ≤ 8 → x < 256 ^ n → number (title (bytes 8 x)) ≡ number (title (bytes n x))
unfolding bytes
title_wide zero x few lt = grind (arith, wider)
title_wide (suc n) x few lt =
    ap (λ y. to_ascii_uppercase (x % 256) + 256 * y)
    (wider to_ascii_lowercase refl n 7 (x / 256) (omega arith) (omega (arith, pow-suc 256 n)))

-- of the bits that turn the case, the first byte's alone, where the rest is in lower case
title_number : (x l b : ℕ) → Bytewise x to_ascii_lowercase l → Bytewise x (case_bit is_ascii_alphabetic) b
    → bit_xor l (bit_and b 32) ≡ number (title (bytes 8 x))
unfolding bytes
title_number x l b p q =
    let c = x % 256 in
    let small : c < 256 = omega arith in
    let low : ℕ = number (map to_ascii_lowercase (bytes 7 (x / 256))) in
    let bits : ℕ = number (map (case_bit is_ascii_alphabetic) (bytes 7 (x / 256))) in
    let own = case_bit is_ascii_alphabetic c in
    let none : bit_and bits 0 ≡ 0 = omega (arith, and_le_r bits 0) in
    let bit : bit_and b 32 ≡ bit_and own 32 + 256 * 0 =
    ap (λ y. bit_and y 32) q.made ∙ first_byte ands own 32 bits 0 (q.keeps c small) (omega arith)
    ∙ ap (λ y. bit_and own 32 + 256 * y) none in
    (λ i. bit_xor (p.made i) (bit i))
    ∙ first_byte xors (to_ascii_lowercase c) (bit_and own 32) low 0 (p.keeps c small)
    (omega (arith, and_le_r own 32))
    ∙ (λ i. alike (λ b. bit_xor (to_ascii_lowercase b) (bit_and (case_bit is_ascii_alphabetic b) 32))
    to_ascii_uppercase refl c small i
    + 256 * xor_comm low 0 i)

-- ---- by the flags of all letters

module _ (n x : ℕ) (h : IsPacked n x) (f : ℕ) (e : f ≡ flags is_ascii_alphabetic x) where
  lowered : Bytewise x to_ascii_lowercase (bit_or x (f / 4))
  lowered = alike_made (of_both ors (itself x (word-lt n x h)) (case_bits is_ascii_alphabetic x f e) refl)
      to_ascii_lowercase refl

  pub lower_whole : number (bytes n (bit_or x (f / 4))) ≡ bit_or x (f / 4)
  lower_whole = (changed h refl lowered).word.whole

  pub lower_shows : bytes n (bit_or x (f / 4)) ≡ map to_ascii_lowercase (bytes n x)
  lower_shows = (changed h refl lowered).shows

  raised : Bytewise x to_ascii_uppercase (bit_xor x (bit_and x (f / 4)))
  raised =
      let own = itself x (word-lt n x h) in
      alike_made (of_both xors own (of_both ands own (case_bits is_ascii_alphabetic x f e) refl) refl)
      to_ascii_uppercase refl

  pub upper_whole : number (bytes n (bit_xor x (bit_and x (f / 4)))) ≡ bit_xor x (bit_and x (f / 4))
  upper_whole = (changed h refl raised).word.whole

  pub upper_shows : bytes n (bit_xor x (bit_and x (f / 4))) ≡ map to_ascii_uppercase (bytes n x)
  upper_shows = (changed h refl raised).shows

  titled : Makes n (bit_xor (bit_or x (f / 4)) (bit_and (f / 4) 32)) (title (bytes n x))
  titled =
      makes n _ (title (bytes n x)) (length-title (bytes n x) ∙ length_bytes n x) h.few (fit-title n x)
      (title_number x _ (f / 4) lowered (case_bits is_ascii_alphabetic x f e)
      ∙ title_wide n x h.few (below n x h))

  pub title_whole : number (bytes n (bit_xor (bit_or x (f / 4)) (bit_and (f / 4) 32)))
      ≡ bit_xor (bit_or x (f / 4)) (bit_and (f / 4) 32)
  title_whole = titled.word.whole

  pub title_shows : bytes n (bit_xor (bit_or x (f / 4)) (bit_and (f / 4) 32)) ≡ title (bytes n x)
  title_shows = titled.shows

-- ---- of letters and digits

-- a letter or digit in lower case, by its bit 5
lower_byte : (b : ℕ) → b < 256 → is_ascii_alphanumeric b ≡ true → bit_or b 32 ≡ to_ascii_lowercase b
lower_byte b lt h =
    let case : cond (is_ascii_alphanumeric b) (bit_or b 32) 0
    ≡ cond (is_ascii_alphanumeric b) (to_ascii_lowercase b) 0 =
    alike (λ b. cond (is_ascii_alphanumeric b) (bit_or b 32) 0)
    (λ b. cond (is_ascii_alphanumeric b) (to_ascii_lowercase b) 0) refl b lt in
    rw h at case

-- the first of some bytes, and the others by another number
pub first_lower : (b r s : ℕ) → is_ascii_alphanumeric b ≡ true
    → bit_or (b + 256 * r) (32 + 256 * s) ≡ to_ascii_lowercase b + 256 * bit_or r s
first_lower b r s h =
    let small : b < 256 = grind (arith, nat_tests) in
    first_byte ors b 32 r s small (omega arith) ∙ ap (λ y. y + 256 * bit_or r s) (lower_byte b small h)

quarter_spread : (n : ℕ) → spread 128 n ≡ 4 * spread 32 n
unfolding spread
quarter_spread zero = refl
quarter_spread (suc n) = omega (arith, quarter_spread n)

word_number : (n x : ℕ) → x < 256 ^ n → list_all is_ascii_alphanumeric (bytes n x) ≡ true
    → bit_or x (spread 32 n) ≡ number (map to_ascii_lowercase (bytes n x))
unfolding bytes spread
word_number zero x lt all = grind arith
word_number (suc n) x lt all =
    let whole : x ≡ x % 256 + 256 * (x / 256) = omega arith in
    ap (λ y. bit_or y (32 + 256 * spread 32 n)) whole
    ∙ first_lower (x % 256) (x / 256) (spread 32 n) (first_so (is_ascii_alphanumeric (x % 256)) _ all)
    ∙ ap (λ y. to_ascii_lowercase (x % 256) + 256 * y)
    (word_number n (x / 256) (omega (arith, pow-suc 256 n))
    (second_so (is_ascii_alphanumeric (x % 256)) _ all))

module _ (n x : ℕ) (h : IsPacked n x) (f : ℕ) (e : f ≡ spread 128 n)
    (all : list_all is_ascii_alphanumeric (bytes n x) ≡ true) where
  worded : Makes n (bit_or x (f / 4)) (map to_ascii_lowercase (bytes n x))
  worded =
      let bits : f / 4 ≡ spread 32 n = omega (arith, e, quarter_spread n) in
      makes n _ (map to_ascii_lowercase (bytes n x))
      (length-map (bytes n x) to_ascii_lowercase ∙ length_bytes n x) h.few
      (fit-map to_ascii_lowercase (kept to_ascii_lowercase refl) n x)
      (ap (bit_or x) bits ∙ word_number n x (below n x h) all)

  pub word_whole : number (bytes n (bit_or x (f / 4))) ≡ bit_or x (f / 4)
  word_whole = worded.word.whole

  pub word_shows : bytes n (bit_or x (f / 4)) ≡ map to_ascii_lowercase (bytes n x)
  word_shows = worded.shows

-- ---- by those of the letters that change

module _ (n x : ℕ) (h : IsPacked n x) (f : ℕ) where
  -- of all bytes but the first, by the number of them
  rest-lower : (r : ℕ) → r < 256 ^ 7
      → bit_xor r (number (map (case_bit (is_in_range 65 90)) (bytes 7 r)))
      ≡ number (map to_ascii_lowercase (bytes 7 r))
  rest-lower r lt =
      let own : number (map (λ b. b) (bytes 7 r)) ≡ r =
      ap number (map-id (bytes 7 r)) ∙ number-bytes 7 r lt in
      ap (λ y. bit_xor y (number (map (case_bit (is_in_range 65 90)) (bytes 7 r)))) (sym own)
      ∙ by_byte xors (λ b. b) (case_bit (is_in_range 65 90)) (λ b l. l) (case-keeps (is_in_range 65 90)) 7 r
      ∙ ap number (same_bytes _ to_ascii_lowercase (alike _ to_ascii_lowercase refl) 7 r)

  pub number-title : f ≡ flags (is_in_range 65 90) (bit_xor x 32)
      → bit_xor x (f / 4) ≡ number (title (bytes n x))
  unfolding bytes
  number-title e =
      let c = x % 256 in
      let r = x / 256 in
      let small : c < 256 = omega arith in
      let lt : r < 256 ^ 7 = omega (arith, word-lt n x h) in
      let bits : ℕ = number (map (case_bit (is_in_range 65 90)) (bytes 7 r)) in
      let case : f / 4 ≡ case_bit (is_in_range 97 122) c + 256 * bits =
      omega (
        arith,
        e,
        turned_flags (is_in_range 65 90) (is_in_range 97 122) refl x,
        fourth (is_in_range 97 122 c),
        quarter (is_in_range 65 90) 7 r,
      ) in
      let parts : x ≡ c + 256 * r = omega arith in
      (λ i. bit_xor (parts i) (case i))
      ∙ first_byte xors c (case_bit (is_in_range 97 122) c) r bits small
      (case-keeps (is_in_range 97 122) c small)
      ∙ (λ i. alike (λ b. bit_xor b (case_bit (is_in_range 97 122) b)) to_ascii_uppercase refl c small i
      + 256 * rest-lower r lt i)
      ∙ title_wide n x h.few (below n x h)
