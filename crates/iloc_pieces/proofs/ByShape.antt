-- What the shape of a piece says.
use Rattle.std.proofs.Common.{◌≡◌, ℕ, ◌+◌, ◌*◌, ◌<◌, ◌==◌, Bool, true, false, not, [], ◌∷◌, get_or, bit_or, ◌^◌, refl, sym, ap, ◌∙◌, arith, inl, inr, ⊎_elim}
use Rattle.std.specs.Char.{is_ascii_alphabetic, is_ascii_alphanumeric, to_ascii_lowercase}
use Rattle.std.proofs.lemmas.Bool.{false_from_ne_true, and_parts, cases_Bool, eqb-true, eqb-false}
use Rattle.std.proofs.lemmas.Bool.Decides.{nat_tests}
use Rattle.iloc_spec_grammar.specs.Syntax.{code_u, code_t, Text, Kind, Script, IsWord, is_word, is_one_byte, is_true, lower, Bounds}
use Rattle.iloc_spec_grammar.proofs.MapLaws.{same_itself}
use Rattle.iloc_spec_grammar.proofs.WordsLaws.{word_letters_or_digits, letter_is, length-script, is_word-lower}
use Rattle.iloc_pieces.specs.Cursor.{IsShortPiece, piece_left}
use Rattle.iloc_pieces.specs.Shape.{bits, shape_of}
use Rattle.iloc_pieces.specs.declared.place.Cursor.{Cursor}
use Rattle.iloc_pieces.proofs.CursorLemmas.{short_word}
use Rattle.iloc_pieces.proofs.WordBytes.{low_bit}
use Rattle.std.proofs.lemmas.Nat.{or_block}
use Rattle.std.proofs.Math.Logic.{∥∥₁_elim}
use Rattle.std.specs.Coded.{Coded-set, coded_bool, coded_ℕ}
use Rattle.iloc_spec_grammar.proofs.Canonical.{true_word}

hyphen_shape : shape_of (45 ∷ []) ≡ 0
unfolding shape_of
hyphen_shape = refl

hyphen_no_word : (k : Kind) → is_word k (45 ∷ []) ≡ false
hyphen_no_word k = grind (arith, false_from_ne_true, word_letters_or_digits)

-- a test of shapes that tells words tells whether the piece is one
pub cursor_by_shape : (k : Kind) → Bounds 8 k → (l : Cursor) (r : Bool)
    → ((p : Text) → shape_of p ≡ l.shape → r ≡ is_word k p)
    → r ≡ is_word k (piece_left l)
cursor_by_shape k ends l r tells = ∥∥₁_elim l.piece (Coded-set coded_bool _ _) (grind (
  arith,
  ⊎_elim,
  false_from_ne_true,
  short_word,
  hyphen_shape,
  hyphen_no_word,
))

-- the shape of a short piece
pub cursor_shape : (l : Cursor) → IsShortPiece (piece_left l) → l.shape ≡ shape_of (piece_left l)
cursor_shape l short = ∥∥₁_elim l.piece (Coded-set coded_ℕ _ _) (⊎_elim
    (λ s. s.shape)
    (λ long. absurd (omega (arith, long.long))))

-- ---- of one byte

one_shape : (b : ℕ) → not (shape_of (b ∷ []) == 0) ≡ is_ascii_alphanumeric b
unfolding shape_of bits
one_shape b = grind arith

-- a piece of one byte has a shape if that is a letter or digit
pub single_shape : (p : Text) → is_one_byte p ≡ true
    → not (shape_of p == 0) ≡ is_ascii_alphanumeric (get_or p 0 0)
single_shape [] h = absurd (cc)
single_shape (b ∷ []) h = one_shape b
single_shape (b ∷ c ∷ p) h = absurd (grind (arith, nat_tests))

-- ---- `true`

-- bit 5 of two numbers
or_byte : (a m n : ℕ) → a < 256 → bit_or (a + 256 * m) (32 + 256 * n) ≡ bit_or a 32 + 256 * bit_or m n
or_byte a m n small =
    let one : a + 256 * m ≡ m * 2 ^ 8 + a = omega arith in
    let two : 32 + 256 * n ≡ n * 2 ^ 8 + 32 = omega arith in
    (λ j. bit_or (one j) (two j)) ∙ or_block 8 m n a 32 small (omega arith) ∙ omega arith

-- four bytes as a number
abbrev four : ℕ → ℕ → ℕ → ℕ → ℕ
four a b c d = a + 256 * (b + 256 * (c + 256 * d))

or_four : (a b c d : ℕ) → a < 256 → b < 256 → c < 256 → d < 256
    → bit_or (four a b c d) 538976288 ≡ four (bit_or a 32) (bit_or b 32) (bit_or c 32) (bit_or d 32)
or_four a b c d k l m n =
    or_byte a (b + 256 * (c + 256 * d)) 2105376 k
    ∙ ap (λ x. bit_or a 32 + 256 * x)
    (or_byte b (c + 256 * d) 8224 l ∙ ap (λ x. bit_or b 32 + 256 * x) (or_byte c d 32 m))

-- which are those of `true`
apart : (a b c d : ℕ) → a < 256 → b < 256 → c < 256 → d < 256 → four a b c d ≡ 1702195828
    → (a ≡ code_t) × (b ≡ 114) × (c ≡ code_u) × (d ≡ 101)
apart a b c d k l m n e = grind arith

letter_fits : (b : ℕ) → is_ascii_alphabetic b ≡ true → (b < 256) × (to_ascii_lowercase b < 256)
letter_fits b h = grind arith

low_letter : (b : ℕ) → is_ascii_alphabetic b ≡ true → bit_or b 32 ≡ to_ascii_lowercase b
low_letter b h = low_bit b (letter_is b h)

module _ (a b c d : ℕ) (k : is_ascii_alphabetic a ≡ true) (l : is_ascii_alphabetic b ≡ true)
    (m : is_ascii_alphabetic c ≡ true) (n : is_ascii_alphabetic d ≡ true) where
  abbrev low : ℕ → ℕ
  low = to_ascii_lowercase

  -- the number with bit 5 is that of the letters in lower case
  low_number : bit_or (four a b c d) 538976288 ≡ four (low a) (low b) (low c) (low d)
  low_number = grind (arith, or_four, letter_fits, low_letter)

  true_letters : (bit_or (four a b c d) 538976288 == 1702195828)
      ≡ is_true (low a ∷ low b ∷ low c ∷ low d ∷ [])
  unfolding is_true
  true_letters = elim (cases_Bool (bit_or (four a b c d) 538976288 == 1702195828)) [
    | inl same ↦
        let (e, f, g, h) =
        apart _ _ _ _ (letter_fits a k).1 (letter_fits b l).1 (letter_fits c m).1 (letter_fits d n).1
        (sym low_number ∙ eqb-true _ _ same) in
        grind (arith, same_itself)
    | inr differs ↦ differs ∙ sym (false_from_ne_true _ (λ h.
        let e = true_word (low a ∷ low b ∷ low c ∷ low d ∷ []) h in
        grind (arith, eqb-false, low_number, get_or)))
  ]

-- four letters are `true` if their number with bit 5 is that of `true`
pub true_number : (p : Text) → IsWord Script p → (x : ℕ)
    → x ≡ four (get_or p 0 0) (get_or p 1 0) (get_or p 2 0) (get_or p 3 0)
    → (bit_or x 538976288 == 1702195828) ≡ is_true (lower p)
unfolding is_word lower
true_number (a ∷ b ∷ c ∷ d ∷ []) h x e = grind (arith, and_parts, true_letters)
true_number [] h x e = absurd (cc)
true_number (a ∷ []) h x e = absurd (cc)
true_number (a ∷ b ∷ []) h x e = absurd (cc)
true_number (a ∷ b ∷ c ∷ []) h x e = absurd (cc)
true_number (a ∷ b ∷ c ∷ d ∷ f ∷ p) h x e = absurd (omega (arith, length-script (a ∷ b ∷ c ∷ d ∷ f ∷ p) h))

-- `true` has four letters
pub true_script : (p : Text) → is_true (lower p) ≡ true → IsWord Script p
unfolding is_word
true_script p h = sym (is_word-lower Script p) ∙ ap (is_word Script) (sym (true_word (lower p) h))
