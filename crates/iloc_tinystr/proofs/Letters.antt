-- Whether all bytes of a number, which are below 128, are 0 or letters.
use Rattle.std.proofs.Common.{◌≡◌, ℕ, zero, suc, ◌+◌, ◌*◌, ◌/◌, ◌%◌, ◌^◌, ◌<◌, Bool, true, false, ◌&&◌, not, cond, eqb, ltb, map, refl, sym, ◌∙◌, ap, arith}
use Rattle.std.specs.Int.RustNames.{bit_and, bit_or, bit_xor}
use Rattle.std.specs.Char.{is_ascii_alphabetic}
use Rattle.std.proofs.lemmas.Bool.Decides.{nat_tests}
use Rattle.iloc_tinystr.specs.Number.{number, bytes, flag, flags, spread, IsLow}
use Rattle.iloc_tinystr.specs.TinyText.{is_text_byte}
use Rattle.iloc_tinystr.proofs.ByBytes.{each_below, tried, kept, number-bytes, Bytewise, itself, constant, ands, ors, xors, of_both}
use Rattle.iloc_tinystr.proofs.Low.{Below, first-below, rest-below, flag-keeps}

-- ---- a sum, byte by byte

-- c more than a byte below 128
plus : ℕ → ℕ → ℕ
plus c b = cond (ltb b 128) (b + c) 0

plus-low : (c b : ℕ) → b < 128 → plus c b ≡ b + c
unfolding plus
plus-low c b h = grind (arith, nat_tests)

sums : (c n x : ℕ) → Below 128 n x → number (bytes n x) + spread c n ≡ number (map (plus c) (bytes n x))
unfolding bytes spread
sums c zero x low = omega arith
sums c (suc n) x low =
    omega (arith, plus-low c (x % 256) (first-below 128 n x low), sums c n (x / 256) (rest-below 128 n x low))

module _ (x : ℕ) (small : x < 2 ^ 64) (low : IsLow x) where
  added : (c : ℕ) → each_below 256 (λ b. ltb (plus c b) 256) ≡ true → Bytewise x (plus c) (x + spread c 8)
  added c e =
      let whole : x < 256 ^ 8 = omega arith in
      record {
        keeps = kept (plus c) e;
        made = ap (λ y. y + spread c 8) (sym (number-bytes 8 x whole)) ∙ sums c 8 x low;
      }

-- ---- the test, byte by byte

-- what three sums and masks have in common at a byte
shared : ℕ → ℕ
shared b = bit_and (bit_and (bit_xor (plus 63 b) (bit_or b 160)) (plus 69 b)) 224

shares : (x : ℕ) → x < 2 ^ 64 → IsLow x →
    Bytewise x shared (bit_and (bit_and (bit_xor (x + 4557430888798830399)
    (bit_or x 11574427654092267680)) (x + 4991471925827290437)) 16204198715729174752)
unfolding shared spread plus
shares x small low =
    let cased = of_both ors (itself x small) (constant x 160 refl) refl in
    let apart = of_both xors (added x small low 63 refl) cased refl in
    of_both ands (of_both ands apart (added x small low 69 refl) refl) (constant x 224 refl) refl

-- it is nothing where the byte is flagged as a letter and as text alike
same : Bool → Bool → Bool
same true t = t
same false t = not t

same-true : (s t : Bool) → same s t ≡ true → s ≡ t
unfolding same
same-true s t h = grind arith

flagged : ℕ → Bool
flagged b = eqb (flag is_ascii_alphabetic b) (flag is_text_byte b)

at_byte : (b : ℕ) → b < 128 → eqb (shared b) 0 ≡ flagged b
unfolding shared plus same flagged
at_byte b l = same-true _ _ (tried 128 (λ b. same (eqb (shared b) 0) (flagged b)) refl b l)

pair : (a b r s : ℕ) → a < 256 → b < 256 → eqb (a + 256 * r) (b + 256 * s) ≡ (eqb a b && eqb r s)
pair a b r s a-lt b-lt = grind (arith, nat_tests)

letters : (n x : ℕ) → Below 128 n x → eqb (number (map shared (bytes n x))) 0
    ≡ eqb (number (map (flag is_ascii_alphabetic) (bytes n x))) (number (map (flag is_text_byte) (bytes n x)))
unfolding bytes shared plus flagged
letters zero x low = refl
letters (suc n) x low =
    let b = x % 256 in
    let small : b < 256 = omega arith in
    pair (shared b) 0 _ 0 (kept shared refl b small) (omega arith)
    ∙ (λ i. at_byte b (first-below 128 n x low) i && letters n (x / 256) (rest-below 128 n x low) i)
    ∙ sym (pair (flag is_ascii_alphabetic b) (flag is_text_byte b) _ _ (flag-keeps is_ascii_alphabetic b)
    (flag-keeps is_text_byte b))

pub letters_are : (x : ℕ) → x < 2 ^ 64 → IsLow x → eqb (bit_and (bit_and (bit_xor (x + 4557430888798830399)
    (bit_or x 11574427654092267680)) (x + 4991471925827290437)) 16204198715729174752) 0
    ≡ eqb (flags is_ascii_alphabetic x) (flags is_text_byte x)
unfolding flags
letters_are x small low = grind (arith, shares, letters)
