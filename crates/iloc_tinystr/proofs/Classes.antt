-- Each byte is flagged that is a letter or a digit, and all are where the test holds of each.
use Rattle.std.proofs.Common.{◌≡◌, ℕ, zero, suc, ◌+◌, ◌-◌, ◌*◌, ◌/◌, ◌^◌, ◌<◌, ◌≤◌, Bool, true, false, ◌&&◌, cond, eqb, map, refl, ◌∙◌, ap, arith}
use borrow.Author.Tests.{eqb-true}
use Rattle.std.specs.Int.RustNames.{bit_and, bit_xor}
use Rattle.std.specs.List.{list_all}
use Rattle.std.specs.Char.{is_ascii_alphabetic, is_ascii_digit}
use Rattle.std.specs.Int.{is_in_range}
use Rattle.iloc_tinystr.specs.TinyText.{is_text_byte}
use Rattle.iloc_tinystr.specs.Number.{number, bytes, flag, flags, spread, IsPacked}
use Rattle.iloc_tinystr.proofs.ByBytes.{each_below, tried, alike, same_bytes, itself, constant, ands, xors, by_byte, of_both}
use Rattle.iloc_tinystr.proofs.Low.{masked, flags_of}
use Rattle.iloc_tinystr.proofs.Packed.{below, wider}

-- those of any bytes, by those of their lowest seven bits
module _ (x : ℕ) (small : x < 2 ^ 64) where
  flagged : (p : ℕ → Bool)
      → each_below 256 (λ b. eqb (bit_and (flag p (bit_and b 127)) (bit_xor b 128)) (flag p b)) ≡ true
      → bit_and (flags p (bit_and x 9187201950435737471)) (bit_xor x 9259542123273814144) ≡ flags p x
  unfolding flags spread
  flagged p e =
      let low = flags_of (masked x small) p in
      let ascii = of_both xors (itself x small) (constant x 128 refl) refl in
      (λ i. bit_and (low.made i) (ascii.made i))
      ∙ by_byte ands (λ b. flag p (bit_and b 127)) (λ b. bit_xor b 128) low.keeps ascii.keeps 8 x
      ∙ ap number (same_bytes _ (flag p) (alike _ (flag p) e) 8 x)

  pub letters_are : bit_and (flags is_ascii_alphabetic (bit_and x 9187201950435737471))
      (bit_xor x 9259542123273814144) ≡ flags is_ascii_alphabetic x
  letters_are = flagged is_ascii_alphabetic refl

  pub digits_are : bit_and (flags (is_in_range 48 57) (bit_and x 9187201950435737471))
      (bit_xor x 9259542123273814144) ≡ flags is_ascii_digit x
  digits_are = flagged is_ascii_digit refl

  pub texts_are : bit_and (flags is_text_byte (bit_and x 9187201950435737471)) (bit_xor x 9259542123273814144)
      ≡ flags is_text_byte x
  texts_are = flagged is_text_byte refl

pub high_bits_are : (n : ℕ) → n ≤ 8 → 9259542123273814144 / 2 ^ (64 - 8 * n) ≡ spread 128 n
unfolding spread
high_bits_are n few =
    let n-lt : n < 9 = omega arith in
    eqb-true _ _ (tried 9 (λ k. eqb (9259542123273814144 / 2 ^ (64 - 8 * k)) (spread 128 k)) refl n n-lt)

pub marks_step : (t all : Bool) (a b : ℕ) → eqb a b ≡ all
    → eqb (cond t 128 0 + 256 * a) (128 + 256 * b) ≡ (t && all)
marks_step t all a b h = grind arith

pub marks : (p : ℕ → Bool) (n x : ℕ)
    → eqb (number (map (flag p) (bytes n x))) (spread 128 n) ≡ list_all p (bytes n x)
unfolding bytes spread
marks p zero x = refl
marks p (suc n) x = grind (arith, marks_step, marks p n (x / 256))

pub all_are : (p : ℕ → Bool) → p 0 ≡ false → (n x : ℕ) → IsPacked n x →
    eqb (flags p x) (spread 128 n) ≡ list_all p (bytes n x)
unfolding flags
all_are p none n x h = grind (arith, wider, below, marks)
