-- A tiny text is marked where its number is not zero: a test holds of all bytes where it marks the same ones.
use Rattle.std.proofs.Common.{◌≡◌, ℕ, zero, suc, ◌+◌, ◌*◌, ◌/◌, ◌%◌, ◌^◌, ◌<◌, ◌≤◌, Bool, true, false, ◌&&◌, not, cond, eqb, List, length, map, refl, ◌∙◌, ap, arith, pow-suc}
use borrow.Author.Tests.{eqb-true}
use Rattle.std.proofs.lemmas.Nat.{ones_cat}
use Rattle.std.specs.List.{list_all}
use Rattle.std.specs.Char.{is_ascii_alphabetic, is_ascii_digit, is_ascii_lowercase, is_ascii_uppercase}
use Rattle.std.specs.Int.{is_in_range}
use Rattle.std.specs.Int.RustNames.{bit_xor, count_ones}
use Rattle.iloc_tinystr.specs.Number.{number, bytes, flag, flags, spread, IsPacked}
use Rattle.iloc_tinystr.specs.TinyText.{is_text_byte, is_tiny_text, is_title_letters}
use Rattle.iloc_tinystr.proofs.Low.{turned_flags}
use Rattle.iloc_tinystr.proofs.Packed.{below, wider}
use Rattle.iloc_tinystr.proofs.Classes.{all_are, marks, marks_step}
use Rattle.iloc_tinystr.proofs.Loading.{fit-text, piece_word, piece_shows}
use Rattle.iloc_tinystr.proofs.Titles.{title}
use Rattle.iloc_tinystr.proofs.Cases.{number-title}
use Rattle.iloc_tinystr.proofs.TinyTextLemmas.{bytes-tiny, length-le-tiny, tiny_title}

-- the number of no marks
none_step : (t all : Bool) (a : ℕ) → eqb a 0 ≡ all → eqb (cond t 128 0 + 256 * a) 0 ≡ (not t && all)
none_step t all a h = grind arith

no_marks : (p : ℕ → Bool) (n x : ℕ)
    → eqb (number (map (flag p) (bytes n x))) 0 ≡ list_all (λ b. not (p b)) (bytes n x)
unfolding bytes
no_marks p zero x = refl
no_marks p (suc n) x = grind (arith, none_step, no_marks p n (x / 256))

ones_spread : (n : ℕ) → count_ones (spread 128 n) ≡ n
unfolding spread count_ones
ones_spread zero = refl
ones_spread (suc n) =
    let turned : 128 + 256 * spread 128 n ≡ spread 128 n * 2 ^ 8 + 128 = omega arith in
    omega (arith, ap count_ones turned, ones_cat 8 (spread 128 n) 128 (omega arith), ones_spread n)

-- the first letter in upper case, and the others in lower case
title_marks : (n x : ℕ) → IsPacked n x
    → eqb (flags (is_in_range 97 122) (bit_xor x 32)) (spread 128 n) ≡ is_title_letters (bytes n x)
unfolding flags bytes spread
title_marks zero x h = grind arith
title_marks (suc n) x h =
    let lt : x / 256 < 256 ^ n = omega (arith, below (suc n) x h, pow-suc 256 n) in
    let few : n ≤ 7 = omega (arith, h.few) in
    ap (λ y. eqb y (128 + 256 * spread 128 n)) (
    turned_flags (is_in_range 97 122) is_ascii_uppercase refl x
    ∙ ap (λ y. flag is_ascii_uppercase (x % 256) + 256 * y)
    (wider (flag (is_in_range 97 122)) refl n 7 (x / 256) few lt))
    ∙ marks_step (is_ascii_uppercase (x % 256)) _ _ _ (marks (is_in_range 97 122) n (x / 256))

module _ (n : ℕ) (text : List ℕ) (x : ℕ) (few : n ≤ 8) (tiny : is_tiny_text n text ≡ true)
    (is : x ≡ number text) where
  short : length text ≤ 8
  short = omega (arith, length-le-tiny n text tiny)

  pub packed : IsPacked (length text) x
  packed = piece_word text x (fit-text text (bytes-tiny n text tiny)) short is

  pub shows : bytes (length text) x ≡ text
  shows = grind (arith, piece_shows, fit-text, bytes-tiny, short)

  marked : (p : ℕ → Bool) → p 0 ≡ false → eqb (flags p x) (spread 128 (length text)) ≡ list_all p text
  marked p none = grind (arith, all_are, packed, shows)

  all_marked : flags is_text_byte x ≡ spread 128 (length text)
  all_marked = eqb-true _ _ (marked is_text_byte refl ∙ bytes-tiny n text tiny)

  with_all : (p : ℕ → Bool) → p 0 ≡ false → eqb (flags p x) (flags is_text_byte x) ≡ list_all p text
  with_all p none = grind (arith, all_marked, marked)

  pub letters_marked : eqb (flags is_ascii_alphabetic x) (flags is_text_byte x)
      ≡ list_all is_ascii_alphabetic text
  letters_marked = with_all is_ascii_alphabetic refl

  pub digits_marked : eqb (flags (is_in_range 48 57) x) (flags is_text_byte x) ≡ list_all is_ascii_digit text
  digits_marked = with_all is_ascii_digit refl

  pub lower_marked : eqb (flags (is_in_range 97 122) x) (flags is_text_byte x)
      ≡ list_all is_ascii_lowercase text
  lower_marked = with_all is_ascii_lowercase refl

  pub upper_marked : eqb (flags (is_in_range 65 90) x) (flags is_text_byte x)
      ≡ list_all is_ascii_uppercase text
  upper_marked = with_all is_ascii_uppercase refl

  pub no_upper_marked : eqb (flags (is_in_range 65 90) x) 0 ≡ list_all (λ b. not (is_ascii_uppercase b)) text
  unfolding flags
  no_upper_marked = grind (arith, wider, short, below, packed, no_marks, shows)

  pub title_marked : eqb (flags (is_in_range 97 122) (bit_xor x 32)) (flags is_text_byte x)
      ≡ is_title_letters text
  title_marked = grind (arith, all_marked, title_marks, packed, shows)

  pub counted : count_ones (flags is_text_byte x) ≡ length text
  counted = ap count_ones all_marked ∙ ones_spread (length text)

  pub count_packed : (m : ℕ) → m ≡ count_ones (flags is_text_byte x) → IsPacked m x
  count_packed m e = grind (arith, counted, packed)

  pub count_shows : (m : ℕ) → m ≡ count_ones (flags is_text_byte x) → bytes m x ≡ text
  count_shows m e = ap (λ n. bytes n x) (e ∙ counted) ∙ shows

  -- a piece that is read from the number of the text in another case is that text
  module _ (f : ℕ) (piece : List ℕ) where
    pub titled : f ≡ flags (is_in_range 65 90) (bit_xor x 32)
        → ((t : List ℕ) → list_all is_text_byte t ≡ true → bit_xor x (f / 4) ≡ number t → piece ≡ t)
        → piece ≡ title text
    titled e read =
        read _ (bytes-tiny n _ (tiny_title n text tiny)) (number-title (length text) x packed f e
        ∙ ap (λ t. number (title t)) shows)
