-- What a subtag names as a value of `sd`.
use Rattle.std.proofs.Common.{◌≡◌, ◌≢◌, ℕ, zero, suc, ◌+◌, ◌-◌, ◌*◌, ◌/◌, ◌%◌, ◌≤◌, ◌==◌, Bool, true, false, cond, ◌&&◌, [], ◌∷◌, ◌++◌, length, get_or, take, drop, codes, None, Ok, refl, sym, ap, ◌∙◌, arith, take-append-drop, not, is_some}
use Rattle.std.specs.Char.{is_ascii_alphabetic, is_ascii_alphanumeric, to_ascii_lowercase}
use Rattle.std.specs.Result.{result_ok}
use Rattle.std.proofs.lemmas.Bool.{and_parts, false_from_ne_true, ne_eqb}
use Rattle.std.proofs.lemmas.List.{drop-drop, drop-take, take-take}
use Rattle.iloc_spec_grammar.specs.Syntax.{Text, Attribute, Region, SubdivisionSuffix, IsWord, is_same, is_true, is_word, letters_or_digits, lower, upper}
use Rattle.iloc_spec_grammar.proofs.MapLaws.{same_is}
use Rattle.iloc_spec_grammar.proofs.WordsLaws.{is_word-lower, is_word-normal, length-attribute, alphabetic-lower, length-lower, lower-lower, lower-upper, normal-normal, word_letters_or_digits}
use Rattle.iloc_spec_parts.specs.DataLocales.{named_subdivision}
use Rattle.iloc_spec_parts.specs.Subdivisions.{Subdivision, region_length, subdivision, subdivision_text}
use Rattle.iloc_spec_parts.proofs.SubdivisionLaws.{subdivision_back}
use Rattle.iloc_pieces.specs.Cursor.{IsShortPiece, piece_left}
use Rattle.iloc_pieces.specs.Shape.{bits, shape_of}
use Rattle.iloc_pieces.specs.declared.place.Cursor.{Cursor}
use Rattle.iloc_pieces.proofs.CursorLemmas.{few_long, length_piece, piece_byte, short_attribute, short_bytes}
use Rattle.iloc_pieces.proofs.ByShape.{cursor_shape}
use Rattle.iloc_normalize.specs.Subdivisions.{EndsRegion, IsNamed, bytes_at}
use Rattle.iloc_pieces.proofs.Shapes.{shape_of_one}
use Rattle.iloc_outline.proofs.OutlineLemmas.{lower-append}

-- ---- the key `sd`

pub sd_of : (p : Text) → length p ≡ 2 → is_same (lower p) (codes "sd")
    ≡ ((to_ascii_lowercase (get_or p 0 0) == 115) && (to_ascii_lowercase (get_or p 1 0) == 100))
unfolding lower
sd_of (a ∷ b ∷ []) e = grind arith
sd_of [] e = absurd (omega arith)
sd_of (a ∷ []) e = absurd (omega arith)
sd_of (a ∷ b ∷ c ∷ p) e = absurd (omega arith)

pub two_long : (l : Cursor) → l.piece_length ≡ 2 → length (piece_left l) ≡ 2
two_long l e = sym (few_long l (omega arith)) ∙ e

pub not_two : (l : Cursor) → l.piece_length ≢ 2 → is_same (lower (piece_left l)) (codes "sd") ≡ false
not_two l n = false_from_ne_true _ (λ e.
    let two : length (piece_left l) ≡ 2 =
    sym (length-lower (piece_left l)) ∙ ap length (same_is (lower (piece_left l)) (codes "sd") e) in
    n (length_piece l (omega arith) ∙ two))

-- the piece by its bytes in the window
pub sd_is : (l : Cursor) → l.piece_length ≡ 2 →
    is_same (lower (piece_left l)) (codes "sd")
    ≡ ((to_ascii_lowercase (get_or l.window.now l.at 0) == 115)
    && (to_ascii_lowercase (get_or l.window.now (l.at + 1) 0) == 100))
sd_is l e = grind (arith, two_long, sd_of, piece_byte, get_or)

-- ---- a region and a suffix

-- a region of k bytes, and a suffix
pub named_parts : (v : Text) (k : ℕ) → IsWord Region (take k v) → IsWord SubdivisionSuffix (drop k v)
    → subdivision (lower v) ≡ Ok (record { region = upper (take k v); suffix = lower (drop k v) })
named_parts v k r x =
    let s : Subdivision = record { region = upper (take k v); suffix = lower (drop k v) } in
    let same : lower v ≡ subdivision_text s =
    ap lower (sym (take-append-drop k v)) ∙ lower-append (take k v) (drop k v)
    ∙ (λ j. sym (lower-upper (take k v)) j ++ sym (lower-lower (drop k v)) j) in
    ap subdivision same
    ∙ subdivision_back s (record {
      region = (is_word-normal Region (take k v) ∙ r, normal-normal Region (take k v));
      suffix = (
        is_word-normal SubdivisionSuffix (drop k v)
            ∙ x,
        normal-normal SubdivisionSuffix (drop k v),
      );
    })

lower_take : (k : ℕ) (v : Text) → take k (lower v) ≡ lower (take k v)
unfolding lower
lower_take zero v = refl
lower_take (suc k) [] = refl
lower_take (suc k) (c ∷ v) = ap (λ l. to_ascii_lowercase c ∷ l) (lower_take k v)

lower_drop : (k : ℕ) (v : Text) → drop k (lower v) ≡ lower (drop k v)
unfolding lower
lower_drop zero v = refl
lower_drop (suc k) [] = refl
lower_drop (suc k) (c ∷ v) = lower_drop k v

-- no region, or no suffix
pub unnamed : (v : Text) → EndsRegion v 0 → named_subdivision (lower v) ≡ None
unnamed v none = grind (arith, lower_take, is_word-lower, lower_drop)

-- so many bytes of it are the region of what it names
pub names_by_region : (v : Text) (k : ℕ) → EndsRegion v k →
    is_some (named_subdivision (lower v)) ≡ not (k == 0)
names_by_region v zero none = ap is_some (unnamed v none)
names_by_region v (suc k) h =
    ap (λ r. is_some (result_ok r)) (named_parts v (suc k) h.1 h.2)
    ∙ sym (ap not (ne_eqb (suc k) 0 (λ e. absurd (omega (arith, e)))))

-- ---- shapes

abbrev bit : ℕ → ℕ
bit b = cond (is_ascii_alphabetic b) 0 1

low_bit : (b : ℕ) → bit b ≤ 1
low_bit b = grind arith

letter_of : (b m : ℕ) → (bit b + 2 * m) % 2 ≡ 0 → is_ascii_alphabetic b ≡ true
letter_of b m e = by (is_ascii_alphabetic b) refl
  where
    by : (a : Bool) → is_ascii_alphabetic b ≡ a → a ≡ true
    by true h = refl
    by false h = let one : bit b ≡ 1 = ap (λ (a : Bool). cond a 0 1) h in absurd (omega (arith, one, e))

digit_of : (b m : ℕ) → (bit b + 2 * m) % 2 ≢ 0 → is_ascii_alphabetic b ≡ false
digit_of b m e = by (is_ascii_alphabetic b) refl
  where
    by : (a : Bool) → is_ascii_alphabetic b ≡ a → a ≡ false
    by false h = refl
    by true h = let none : bit b ≡ 0 = ap (λ (a : Bool). cond a 0 1) h in absurd (e (omega (arith, none)))

module _ (a b c : ℕ) (q : Text) (all : letters_or_digits (a ∷ b ∷ c ∷ q) ≡ true) where
  abbrev p : Text
  p = a ∷ b ∷ c ∷ q

  first : is_ascii_alphanumeric a ≡ true
  first = (and_parts (is_ascii_alphanumeric a) (letters_or_digits (b ∷ c ∷ q)) all).0

  later : letters_or_digits (b ∷ c ∷ q) ≡ true
  later = (and_parts (is_ascii_alphanumeric a) (letters_or_digits (b ∷ c ∷ q)) all).1

  second : is_ascii_alphanumeric b ≡ true
  second = (and_parts (is_ascii_alphanumeric b) (letters_or_digits (c ∷ q)) later).0

  last : letters_or_digits (c ∷ q) ≡ true
  last = (and_parts (is_ascii_alphanumeric b) (letters_or_digits (c ∷ q)) later).1

  third : is_ascii_alphanumeric c ≡ true
  third = (and_parts (is_ascii_alphanumeric c) (letters_or_digits q) last).0

  rest : letters_or_digits q ≡ true
  rest = (and_parts (is_ascii_alphanumeric c) (letters_or_digits q) last).1

  whole : shape_of p ≡ bit a + 2 * (bit b + 2 * (bit c + 2 * bits q))
  unfolding bits
  whole = shape_of_one p all

  pub two_letters : shape_of p % 2 ≡ 0 → region_length (lower p) ≡ 2
  unfolding lower
  two_letters e = grind (arith, letter_of, whole, alphabetic-lower)

  pub three_digits : shape_of p % 2 ≢ 0 → region_length (lower p) ≡ 3
  unfolding lower
  three_digits e = grind (arith, digit_of, whole, alphabetic-lower)

  pub front_two : shape_of (take 2 p) ≡ shape_of p % 4 + 4
  unfolding bits
  front_two = grind (arith, first, second, low_bit, shape_of_one, whole)

  pub rest_two : shape_of (drop 2 p) ≡ shape_of p / 4
  unfolding bits
  rest_two = grind (arith, low_bit, shape_of_one, last, whole)

  pub front_three : shape_of (take 3 p) ≡ shape_of p % 8 + 8
  unfolding bits
  front_three = grind (arith, first, second, third, low_bit, shape_of_one, whole)

  pub rest_three : shape_of (drop 3 p) ≡ shape_of p / 8
  unfolding bits
  rest_three = grind (arith, low_bit, shape_of_one, rest, whole)

-- what the shape says
pub record Parts (p : Text) : Type 0 where
  pub two : shape_of p % 2 ≡ 0 → region_length (lower p) ≡ 2
  pub three : shape_of p % 2 ≢ 0 → region_length (lower p) ≡ 3
  pub front_two : shape_of (take 2 p) ≡ shape_of p % 4 + 4
  pub rest_two : shape_of (drop 2 p) ≡ shape_of p / 4
  pub front_three : shape_of (take 3 p) ≡ shape_of p % 8 + 8
  pub rest_three : shape_of (drop 3 p) ≡ shape_of p / 8

pub parts : (p : Text) → letters_or_digits p ≡ true → 3 ≤ length p → Parts p
parts [] all l = absurd (omega arith)
parts (a ∷ []) all l = absurd (omega arith)
parts (a ∷ b ∷ []) all l = absurd (omega arith)
parts (a ∷ b ∷ c ∷ q) all l = search (two_letters, three_digits, front_two, rest_two, front_three, rest_three)

-- the region has k bytes, if the words are
module _ (p : Text) (k : ℕ) (at : region_length (lower p) ≡ k) where
  abbrev both : ℕ → Bool
  both n = is_word Region (take n p) && is_word SubdivisionSuffix (drop n p)

  pub no_region : is_word Region (take k p) ≡ false → EndsRegion p 0
  no_region e = ap both at ∙ ap (λ (b : Bool). b && is_word SubdivisionSuffix (drop k p)) e

  pub no_suffix : is_word SubdivisionSuffix (drop k p) ≡ false → EndsRegion p 0
  no_suffix e = grind arith

-- ---- what a word names

two_or_three : (t : Text) → (2 ≤ region_length t) × (region_length t ≤ 3)
two_or_three [] = (omega arith, omega arith)
two_or_three (c ∷ t) = grind arith

module _ (m : Cursor) (word : IsWord Attribute (piece_left m)) where
  short : IsShortPiece (piece_left m)
  short = short_attribute (piece_left m) word

  -- its shape
  pub shape_there : shape_of (piece_left m) ≡ m.shape
  shape_there = sym (cursor_shape m short)

  pub all_there : letters_or_digits (piece_left m) ≡ true
  all_there = word_letters_or_digits Attribute (piece_left m) word

  pub long_there : 3 ≤ length (piece_left m)
  long_there = (length-attribute (piece_left m) word).0

  -- so many bytes of it are the region
  pub named_there : is_true (lower (piece_left m)) ≡ false → (k : ℕ) → k ≢ 0 → EndsRegion (piece_left m) k
      → (s : Subdivision) × IsNamed m.window.now (record { at = m.at; len = m.piece_length; region = k }) s
  named_there other zero some h = absurd (some refl)
  named_there other (suc k) some h =
      let p = piece_left m in
      let w = m.window.now in
      let n = suc k in
      let long = length_piece m short in
      let few = two_or_three (lower p) in
      let size : (2 ≤ n) × (n ≤ 3) = (omega (arith, few.0, h.0), omega (arith, few.1, h.0)) in
      let l = long_there in
      let bytes : bytes_at w m.at m.piece_length ≡ p = short_bytes m short in
      let within : n ≤ m.piece_length = omega (arith, size.1, l, long) in
      let region : bytes_at w m.at n ≡ take n p =
      sym (take-take n m.piece_length (drop m.at w) within) ∙ ap (take n) bytes in
      let parts : m.piece_length ≡ n + (m.piece_length - n) = omega (arith, within) in
      let suffix : bytes_at w (m.at + n) (m.piece_length - n) ≡ drop n p =
      sym (ap (λ (i : ℕ). drop n (take i (drop m.at w))) parts
      ∙ drop-take n (m.piece_length - n) (drop m.at w)
      ∙ ap (take (m.piece_length - n)) (drop-drop n m.at w)) ∙ ap (drop n) bytes in (
        record { region = upper (take n p); suffix = lower (drop n p) },
        record {
          few = within;
          most = size.1;
          some = size.0;
          other = ap (λ (t : Text). is_true (lower t)) bytes ∙ other;
          names = ap (λ (t : Text). subdivision (lower t)) bytes ∙ named_parts p n h.1 h.2;
          region = ap upper (sym region);
          suffix = ap lower (sym suffix);
        },
      )
