-- The words of a plain identifier as numbers.
use Rattle.std.proofs.Common.{◌≡◌, ℕ, zero, suc, ◌+◌, ◌-◌, ◌*◌, ◌/◌, ◌%◌, ◌^◌, ◌≤◌, true, [], ◌∷◌, ◌++◌, length, get_or, take, drop, bit_and, refl, sym, ap, ◌∙◌, arith, Some, None}
use Rattle.std.specs.List.{list_all}
use Rattle.std.specs.Char.{is_ascii_alphanumeric}
use Rattle.std.proofs.lemmas.Bool.Decides.{nat_tests}
use Rattle.std.proofs.lemmas.Nat.{and_mask, mod-pow-add}
use Rattle.std.proofs.lemmas.Nat.Bits.{ones_shr}
use Rattle.std.proofs.Math.Pow.{mod-mod-pow}
use Rattle.std.proofs.Math.Nat.{zero-mod}
use Rattle.std.proofs.Math.Seq.{drop-append_seam}
use Rattle.std.proofs.lemmas.List.{take-append-le}
use Rattle.std.proofs.lemmas.Simd.{put_chunk_is}
use lib.Lanes.{number_l, put_chunk}
use Rattle.iloc_spec_grammar.specs.Syntax.{Text, Kind, IsWord, languages}
use Rattle.iloc_spec_grammar.specs.Values.{IsIdentifierValue}
use Rattle.iloc_spec_grammar.proofs.WordsLaws.{every, word_letters_or_digits}
use Rattle.iloc_tinystr.specs.Number.{number}
use Rattle.iloc_tinystr.specs.TinyText.{is_text_byte}
use Rattle.iloc_tinystr.proofs.RawForms.{Bytes}
use Rattle.iloc_pieces.specs.PlainShape.{script_len, plain_identifier}
use Rattle.iloc_pieces.specs.Plain.{AreWords, value_of}
use Rattle.iloc_pieces.specs.declared.plain.Plain.{Plain}
use Rattle.iloc_pieces.proofs.WordLemmas.{part_two, part_three}

text_byte : (c : ℕ) → is_ascii_alphanumeric c ≡ true → is_text_byte c ≡ true
text_byte c h = grind (arith, nat_tests)

-- words are texts
text_of_word : (k : Kind) (p : Text) → IsWord k p → list_all is_text_byte p ≡ true
text_of_word k p h = grind (arith, every, text_byte, word_letters_or_digits)

-- the number of the first bytes
same_number : (xs : Text) → number_l 256 xs ≡ number xs
same_number [] = refl
same_number (x ∷ xs) = ap (λ y. x + 256 * y) (same_number xs)

number_take : (k : ℕ) (xs : Text) → Bytes xs → number xs % 2 ^ (8 * k) ≡ number (take k xs)
number_take zero xs h = omega arith
number_take (suc k) [] h = zero-mod (2 ^ (8 * suc k))
number_take (suc k) (x ∷ xs) h =
    let size : 8 * suc k ≡ 8 * k + 8 = omega arith in
    let rest : (x + 256 * number xs) / 2 ^ 8 ≡ number xs = omega (arith, h 0) in
    grind (arith, mod-pow-add, number_take k xs (λ i. h (suc i)))

first_number : (f : ℕ) (xs : Text) → Bytes xs → f ≤ 8 →
    bit_and (number_l 256 xs % 2 ^ 64) ((2 ^ 64 - 1) / 2 ^ (64 - 8 * f)) ≡ number (take f xs)
first_number f xs h few =
    let within : 64 - 8 * f ≤ 64 = omega arith in
    let back : 64 - (64 - 8 * f) ≡ 8 * f = omega arith in
    let whole : 64 - 8 * f + 8 * f ≡ 64 = omega arith in
    let n : ℕ = number_l 256 xs in
    ap (bit_and (n % 2 ^ 64)) (ones_shr 64 (64 - 8 * f) within ∙ ap (λ k. 2 ^ k - 1) back)
    ∙ and_mask (n % 2 ^ 64) (8 * f)
    ∙ ap (λ k. n % 2 ^ k % 2 ^ (8 * f)) (sym whole) ∙ mod-mod-pow n (64 - 8 * f) (8 * f)
    ∙ ap (λ m. m % 2 ^ (8 * f)) (same_number xs) ∙ number_take f xs h

-- what shows a text of that number
abbrev Shows : ℕ → Text → Type 0
Shows x piece = (text : Text) → list_all is_text_byte text ≡ true → x ≡ number text → piece ≡ text

module _ (p : Plain) (words : AreWords p) (value : IsIdentifierValue languages (value_of p)) where
  pub language_is : (x : ℕ) (piece : Text) → Bytes p.bytes →
      x ≡ bit_and (number_l 256 p.bytes % 2 ^ 64) ((2 ^ 64 - 1) / 2 ^ (64 - 8 * p.language)) → Shows x piece →
      piece ≡ (value_of p).language
  unfolding plain_identifier
  language_is x piece fit e shows = grind (arith, text_of_word, first_number)

  abbrev place : ℕ
  place = script_len p.has_script + 1

  pub no_region : p.region ≡ 0 → None ≡ (value_of p).region
  unfolding plain_identifier
  no_region e = grind arith

  pub region_two : (x at : ℕ) (b piece : Text) → b ≡ p.bytes → length b ≡ 16 → at ≡ p.len - p.region →
      x ≡ get_or b at 0 + 256 * get_or b (at + 1) 0 → p.region ≡ 2 → Shows x piece →
      Some piece ≡ (value_of p).region
  unfolding plain_identifier
  region_two x at b piece same long here e two shows = grind (arith, part_two, text_of_word)

  pub region_three : (x at : ℕ) (b piece : Text) → b ≡ p.bytes → length b ≡ 16 → at ≡ p.len - p.region →
      x ≡ get_or b at 0 + 256 * get_or b (at + 1) 0 + 65536 * get_or b (at + 2) 0 → p.region ≡ 3 →
      Shows x piece → Some piece ≡ (value_of p).region
  unfolding plain_identifier
  region_three x at b piece same long here e three shows = grind (arith, part_three, text_of_word)

-- ---- sixteen bytes that are stored

stored : (xs ys : Text) → length ys ≡ 16 → 16 ≤ length xs → put_chunk 0 xs ys ≡ ys ++ drop 16 xs
stored xs ys long room = grind (arith, put_chunk_is)

pub stored_first : (n : ℕ) (xs ys : Text) → length ys ≡ 16 → 16 ≤ length xs → n ≤ 16 →
    take n (put_chunk 0 xs ys) ≡ take n ys
stored_first n xs ys long room few = grind (arith, stored, take-append-le)

pub stored_rest : (xs ys : Text) → length ys ≡ 16 → 16 ≤ length xs →
    drop 16 (put_chunk 0 xs ys) ≡ drop 16 xs
stored_rest xs ys long room =
    ap (drop 16) (stored xs ys long room) ∙ ap (λ k. drop k (ys ++ drop 16 xs)) (sym long)
    ∙ drop-append_seam ys (drop 16 xs)
