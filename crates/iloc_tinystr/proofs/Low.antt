-- Numbers of bytes below 128, of which a sum carries nothing from byte to byte.
use Rattle.std.proofs.Common.{◌≡◌, ℕ, zero, suc, ◌+◌, ◌-◌, ◌*◌, ◌/◌, ◌%◌, ◌^◌, ◌<◌, ◌≤◌, Bool, true, ◌&&◌, not, cond, eqb, ltb, nat_le, get_or, List, [], ◌∷◌, length, map, refl, sym, ◌∙◌, ap, subst, arith}
use borrow.Author.Tests.{ltb-true}
use Rattle.std.proofs.lemmas.Bool.Decides.{nat_tests}
use Rattle.std.proofs.lemmas.List.{length-map}
use Rattle.std.proofs.lemmas.Nat.{and_le_r, xor_comm, xor_lt}
use Rattle.std.specs.Char.{is_ascii_alphabetic}
use Rattle.std.specs.Int.{is_in_range}
use Rattle.std.specs.Int.RustNames.{bit_and, bit_or, bit_xor}
use Rattle.iloc_tinystr.specs.Number.{number, bytes, flag, flags, spread, IsLow}
use Rattle.iloc_tinystr.specs.TinyText.{is_text_byte}
use Rattle.iloc_tinystr.proofs.ByBytes.{each_below, tried, alike, same_bytes, number-bytes, length_bytes, fit-bytes, bytes-number, Bytewise, itself, constant, alike_made, ands, ors, xors, first_byte, by_byte, of_both}
use Rattle.iloc_tinystr.proofs.Packed.{fit-map}

-- each byte is below c
abbrev pub Below : ℕ → ℕ → ℕ → Type 0
Below c n x = (k : ℕ) → get_or (bytes n x) k 0 < c

pub first-below : (c n x : ℕ) → Below c (suc n) x → x % 256 < c
unfolding bytes
first-below c n x low = low 0

pub rest-below : (c n x : ℕ) → Below c (suc n) x → Below c n (x / 256)
unfolding bytes
rest-below c n x low k = low (suc k)

low-le : (n x : ℕ) → Below 128 n x → number (bytes n x) ≤ spread 127 n
unfolding bytes spread
low-le zero x low = omega arith
low-le (suc n) x low = omega (arith, first-below 128 n x low, low-le n (x / 256) (rest-below 128 n x low))

pub low_le : (x : ℕ) → x < 2 ^ 64 → IsLow x → x ≤ 9187201950435737471
unfolding spread
low_le x small low =
    let e : x < 256 ^ 8 = omega arith in
    omega (arith, low-le 8 x low, number-bytes 8 x e)

-- ---- the bytes that are so large at least

top_bit : (z : ℕ) → z < 256 → bit_and z 128 ≡ flag (nat_le 128) z
top_bit z h = alike (λ b. bit_and b 128) (flag (nat_le 128)) refl z h

module _ (c : ℕ) (few : c ≤ 128) where
  reached : (b : ℕ) → nat_le 128 (b + (128 - c)) ≡ nat_le c b
  reached b = grind (arith, nat_tests)

  marks : (n x : ℕ) → Below 128 n x
      → bit_and (number (bytes n x) + (128 - c) * spread 1 n) (spread 128 n)
      ≡ number (map (flag (nat_le c)) (bytes n x))
  unfolding bytes spread
  marks zero x low = grind (arith, and_le_r)
  marks (suc n) x low =
      let b = x % 256 in
      let d = 128 - c in
      let rest : ℕ = number (bytes n (x / 256)) in
      let sum : b + 256 * rest + d * (1 + 256 * spread 1 n) ≡ (b + d) + 256 * (rest + d * spread 1 n) =
      omega arith in
      let fits : b + d < 256 = omega (arith, first-below 128 n x low) in
      let bit : bit_and (b + d) 128 ≡ flag (nat_le c) b = top_bit (b + d) fits
      ∙ ap (λ t. cond t 128 0) (reached b) in
      ap (λ y. bit_and y (128 + 256 * spread 128 n)) sum
      ∙ first_byte ands (b + d) 128 (rest + d * spread 1 n) (spread 128 n) fits (omega arith)
      ∙ (λ i. bit i + 256 * marks n (x / 256) (rest-below 128 n x low) i)

pub marks_are : (c x : ℕ) → c ≤ 128 → x < 2 ^ 64 → IsLow x
    → bit_and (x + (128 - c) * 72340172838076673) 9259542123273814144 ≡ flags (nat_le c) x
unfolding flags spread
marks_are c x few small low =
    let e : x < 256 ^ 8 = omega arith in
    ap (λ y. bit_and (y + (128 - c) * 72340172838076673) 9259542123273814144) (sym (number-bytes 8 x e))
    ∙ marks c few 8 x low

-- ---- and those between two

pub flag-keeps : (p : ℕ → Bool) (b : ℕ) → flag p b < 256
flag-keeps p b = grind arith

apart : (p q r : Bool) → (q ≡ true → p ≡ true) → r ≡ (p && not q)
    → bit_xor (cond p 128 0) (cond q 128 0) ≡ cond r 128 0
apart p q r h k = grind arith

flag_apart : (a b z : ℕ) → a ≤ b
    → bit_xor (flag (nat_le a) z) (flag (nat_le (b + 1)) z) ≡ flag (is_in_range a b) z
flag_apart a b z le = grind (arith, apart)

pub between_are : (a b x : ℕ) → a ≤ b
    → bit_xor (flags (nat_le a) x) (flags (nat_le (b + 1)) x) ≡ flags (is_in_range a b) x
unfolding flags
between_are a b x le =
    by_byte xors (flag (nat_le a)) (flag (nat_le (b + 1))) (λ z l. flag-keeps (nat_le a) z)
    (λ z l. flag-keeps (nat_le (b + 1)) z) 8 x
    ∙ ap number (same_bytes _ (flag (is_in_range a b)) (λ z l. flag_apart a b z le) 8 x)

-- ---- of a number that goes by the bytes of another

pub bytes_of : {x y : ℕ} {f : ℕ → ℕ} → Bytewise x f y → bytes 8 y ≡ map f (bytes 8 x)
bytes_of {x} {y} {f} b =
    let long : length (map f (bytes 8 x)) ≡ 8 = length-map (bytes 8 x) f ∙ length_bytes 8 x in
    (λ i. bytes (sym long i) (b.made i)) ∙ bytes-number (map f (bytes 8 x)) (fit-map f b.keeps 8 x)

twice : (g f : ℕ → ℕ) (xs : List ℕ) → number (map g (map f xs)) ≡ number (map (λ b. g (f b)) xs)
twice g f [] = refl
twice g f (x ∷ xs) = grind (arith, twice g f xs)

pub flags_of : {x y : ℕ} {f : ℕ → ℕ} → Bytewise x f y → (p : ℕ → Bool)
    → Bytewise x (λ b. flag p (f b)) (flags p y)
unfolding flags
flags_of h p = grind (arith, flag-keeps, bytes_of, twice)

below-map : (f : ℕ → ℕ) (c : ℕ) → ((b : ℕ) → b < c → f b < 128) → (n x : ℕ) → Below c n x → (k : ℕ)
    → get_or (map f (bytes n x)) k 0 < 128
unfolding bytes
below-map f c keeps zero x low k = omega arith
below-map f c keeps (suc n) x low zero = keeps (x % 256) (low 0)
below-map f c keeps (suc n) x low (suc k) = below-map f c keeps n (x / 256) (λ j. low (suc j)) k

low_by : {x y : ℕ} {f : ℕ → ℕ} → Bytewise x f y → (c : ℕ) → ((b : ℕ) → b < c → f b < 128) → Below c 8 x
    → IsLow y
low_by {x} {f = f} b c keeps low k = rw (bytes_of b) (below-map f c keeps 8 x low k)

module _ (x : ℕ) (small : x < 2 ^ 64) where
  pub masked : Bytewise x (λ b. bit_and b 127) (bit_and x 9187201950435737471)
  unfolding spread
  masked = of_both ands (itself x small) (constant x 127 refl) refl

  pub masked_low : IsLow (bit_and x 9187201950435737471)
  masked_low = low_by masked 256 (λ b l. omega (arith, and_le_r b 127)) (fit-bytes 8 x)

  cased : Bytewise x (λ b. bit_or b 32) (bit_or x 2314885530818453536)
  unfolding spread
  cased = of_both ors (itself x small) (constant x 32 refl) refl

  pub letters_are : flags (is_in_range 97 122) (bit_or x 2314885530818453536) ≡ flags is_ascii_alphabetic x
  unfolding flags
  letters_are = (alike_made (flags_of cased (is_in_range 97 122)) (flag is_ascii_alphabetic) refl).made

  module _ (low : IsLow x) where
    pub cased_low : IsLow (bit_or x 2314885530818453536)
    cased_low = low_by cased 128 (λ b l. ltb-true _ 128 (tried 128 (λ b. ltb (bit_or b 32) 128) refl b l)) low

    low-same : (f g : ℕ → ℕ) → ((b : ℕ) → b < 128 → f b ≡ g b) → (n y : ℕ) → Below 128 n y
        → map f (bytes n y) ≡ map g (bytes n y)
    unfolding bytes
    low-same f g e zero y l = refl
    low-same f g e (suc n) y l =
        let here = e (y % 256) (l 0) in
        λ i. here i ∷ low-same f g e n (y / 256) (λ k. l (suc k)) i

    one_at_least : (b : ℕ) → b < 128 → nat_le 1 b ≡ is_text_byte b
    one_at_least b l = grind (arith, nat_tests)

    pub texts_are : flags (nat_le 1) x ≡ flags is_text_byte x
    unfolding flags
    texts_are =
        let here = λ (b : ℕ) (l : b < 128). ap (λ t. cond t 128 0) (one_at_least b l) in
        ap number (low-same (flag (nat_le 1)) (flag is_text_byte) here 8 x low)

-- ---- of a number whose first byte is in the other case

turned : (x : ℕ) → bit_xor x 32 ≡ bit_xor (x % 256) 32 + 256 * (x / 256)
turned x =
    let parts : x ≡ x % 256 + 256 * (x / 256) = omega arith in
    ap (λ y. bit_xor y 32) parts ∙ first_byte xors (x % 256) 32 (x / 256) 0 (omega arith) (omega arith)
    ∙ ap (λ y. bit_xor (x % 256) 32 + 256 * y) (xor_comm (x / 256) 0)

turned_first : (x : ℕ) → bit_xor x 32 % 256 ≡ bit_xor (x % 256) 32
turned_first x = omega (arith, turned x, xor_lt 8 (x % 256) 32 (omega arith) (omega arith))

turned_rest : (x : ℕ) → bit_xor x 32 / 256 ≡ x / 256
turned_rest x = omega (arith, turned x, xor_lt 8 (x % 256) 32 (omega arith) (omega arith))

pub turned_low : (x : ℕ) → IsLow x → IsLow (bit_xor x 32)
unfolding bytes
turned_low x low zero =
    subst (λ (y : ℕ). y < 128) (sym (turned_first x))
    (ltb-true _ 128 (tried 128 (λ b. ltb (bit_xor b 32) 128) refl (x % 256) (low 0)))
turned_low x low (suc k) = subst (λ (y : ℕ). get_or (bytes 7 y) k 0 < 128) (sym (turned_rest x)) (low (suc k))

-- the flags of such a number, by those of the first byte alone
pub turned_flags : (p q : ℕ → Bool) → each_below 256 (λ b. eqb (flag p (bit_xor b 32)) (flag q b)) ≡ true
    → (x : ℕ)
    → flags p (bit_xor x 32) ≡ flag q (x % 256) + 256 * number (map (flag p) (bytes 7 (x / 256)))
unfolding flags bytes
turned_flags p q e x =
    (λ i. flag p (turned_first x i) + 256 * number (map (flag p) (bytes 7 (turned_rest x i))))
    ∙ ap (λ y. y + 256 * number (map (flag p) (bytes 7 (x / 256))))
    (alike (λ b. flag p (bit_xor b 32)) (flag q) e (x % 256) (omega arith))
