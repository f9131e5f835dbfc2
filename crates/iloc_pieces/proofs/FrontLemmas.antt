-- From the first piece of a line to what stands at its front.
use Rattle.std.proofs.Common.{◌≡◌, ◌≢◌, ℕ, zero, suc, ◌+◌, ◌-◌, ◌<◌, ◌≤◌, Bool, true, false, not, List, [], ◌∷◌, length, get_or, take, drop, refl, sym, ap, ◌∙◌, subst, arith}
use Rattle.std.specs.List.{slice_split, onto_first}
use Rattle.std.proofs.lemmas.Bool.{cases_lt, cases_Bool}
use Rattle.std.proofs.lemmas.List.{get_or-take, length-drop, length-take-le, take-take, drop-take}
use Rattle.std.proofs.lemmas.List.Splits.{slice_split-cons_yes, slice_split-cons_no}
use Rattle.iloc_spec_grammar.specs.Syntax.{Text, pieces, first_piece, Kind, Attribute, Language, UnicodeKey, is_word, IsWord, is_true, lower, languages}
use Rattle.iloc_spec_grammar.specs.Meaning.{normal_values}
use Rattle.iloc_spec_grammar.proofs.WordsLaws.{length-language, length-attribute, length-unicode_key}
use Rattle.iloc_spec_grammar.proofs.RawLaws.{languages_table}
use Rattle.iloc_pieces.specs.Run.{IsRun, is_hyphen, fails}
use Rattle.iloc_pieces.specs.Front.{IsFirst}

-- ---- the first piece, by the bytes before the first hyphen

-- no hyphen is among the first n bytes
abbrev pub Free : ℕ → Text → Type 0
Free n t = (i : ℕ) → i < n → fails is_hyphen (get_or t i 0) ≡ true

pub is_no : (b : Bool) → not b ≡ true → b ≡ false
is_no true e = sym e
is_no false e = refl

pub is_yes : (b : Bool) → not b ≡ false → b ≡ true
is_yes true e = refl
is_yes false e = sym e

pub later : (n c : ℕ) (t : Text) → Free (suc n) (c ∷ t) → Free n t
later n c t h i l = h (suc i) (omega arith)

pub go_on : (n c : ℕ) (t : Text) → Free (suc n) (c ∷ t) →
    slice_split is_hyphen (c ∷ t) ≡ onto_first c (slice_split is_hyphen t)
go_on n c t h = grind (arith, slice_split-cons_no, is_no)

cut_at : (k : ℕ) (t : Text) → k < length t → Free k t → fails is_hyphen (get_or t k 0) ≡ false
    → slice_split is_hyphen t ≡ take k t ∷ slice_split is_hyphen (drop (suc k) t)
cut_at zero [] l h e = absurd (omega arith)
cut_at zero (c ∷ t) l h e = grind (arith, slice_split-cons_yes, is_yes)
cut_at (suc k) [] l h e = absurd (omega arith)
cut_at (suc k) (c ∷ t) l h e = go_on k c t h ∙ ap (onto_first c) (cut_at k t (omega arith) (later k c t h) e)

uncut : (t : Text) → Free (length t) t → slice_split is_hyphen t ≡ t ∷ []
uncut [] h = refl
uncut (c ∷ t) h = go_on (length t) c t h ∙ ap (onto_first c) (uncut t (later (length t) c t h))

pub first_onto : (c : ℕ) (ps : List Text) →
    length (first_piece (onto_first c ps)) ≡ suc (length (first_piece ps))
first_onto c [] = refl
first_onto c (p ∷ ps) = refl

pub goes_far : (k : ℕ) (t : Text) → k ≤ length t → Free k t →
    k ≤ length (first_piece (slice_split is_hyphen t))
goes_far zero t l h = omega arith
goes_far (suc k) [] l h = absurd (omega arith)
goes_far (suc k) (c ∷ t) l h =
    omega (
      arith,
      ap (λ ps. length (first_piece ps)) (go_on k c t h) ∙ first_onto c (slice_split is_hyphen t),
      goes_far k t (omega arith) (later k c t h),
    )

-- n bytes come before the first hyphen of what the line has
pub first_by : (w : Text) (len n : ℕ) → len ≤ length w → n ≤ len → n ≤ 16
    → ((i : ℕ) → i < n → fails is_hyphen (get_or w i 0) ≡ true)
    → (n < len → n < 16 → fails is_hyphen (get_or w n 0) ≡ false) → IsFirst (take len w) n
unfolding pieces
first_by w len n inside less few pass ends =
    let t = take len w in
    let long : length t ≡ len = length-take-le len w inside in
    let free : Free n t = grind (arith, get_or-take) in
    record {
      within = omega arith;
      few = few;
      cut = grind (arith, cut_at, get_or-take);
      last = λ short whole. uncut t (subst (λ (m : ℕ). Free m t) whole free);
      long = grind (arith, goes_far);
    }

-- n is the lesser of the line's length and of the bytes before the first hyphen of the window
pub first_is : (w : Text) (len k n : ℕ) → 16 ≤ length w → len ≤ length w → IsRun (fails is_hyphen) w k
    → n ≤ len → n ≤ k → (n < len → n ≡ k) → IsFirst (take len w) n
first_is w len k n wide inside r few less least =
    first_by w len n inside few (omega (arith, r.few)) (λ i early. r.pass i (omega arith))
    (grind (arith, get_or))

-- ---- words among the pieces

pub values_true : (p : Text) (ps : List Text) → is_true (lower p) ≡ true →
    normal_values (p ∷ ps) ≡ normal_values ps
values_true p ps e = grind arith

-- no word of the kind has more than eight bytes
abbrev pub IsShort : Kind → Type 0
IsShort k = (p : Text) → IsWord k p → length p ≤ 8

pub short_language : IsShort (Language languages)
short_language p h = grind (arith, languages_table, length-language)

pub short_key : IsShort UnicodeKey
short_key p h = omega (arith, length-unicode_key p h)

pub short_attribute : IsShort Attribute
short_attribute p h = (length-attribute p h).1

pub too_long : (k : Kind) → IsShort k → (p : Text) → 8 < length p → is_word k p ≡ false
too_long k short p more = grind (arith, cases_Bool)

-- what follows a byte of the line, in the line and in the rest of the window
pub later_bytes : (w : Text) (len n : ℕ) → len ≤ length w → n < len
    → drop (suc n) (take len w) ≡ take (len - n - 1) (take (length w - (n + 1)) (drop (n + 1) w))
later_bytes w len n inside less =
    let parts : len ≡ suc n + (len - n - 1) = omega arith in grind (arith, drop-take, take-take)

-- behind its first bytes a window has the rest of the text
pub behind : (w : Text) (k : ℕ) → k + 16 ≤ length w →
    length (take (length w - k) (drop k w)) - 16 ≡ length w - 16 - k
behind w k inside = grind (arith, length-drop, length-take-le)

module _ (w : Text) (len n : ℕ) (room : len + 16 ≤ length w) (first : IsFirst (take len w) n) where
  abbrev text : Text
  text = take len w

  -- what follows the first piece and its hyphen, in the rest of the window
  abbrev pub next : Text
  next = take (len - n - 1) (take (length w - (n + 1)) (drop (n + 1) w))

  whole : length text ≡ len
  whole = length-take-le len w (omega arith)

  inside : n ≤ len
  inside = omega (arith, first.within, whole)

  front_same : take n text ≡ take n w
  front_same = take-take n len w inside

  -- a short first piece is the first n bytes
  pub short_first : n < 16 → first_piece (pieces text) ≡ take n w
  short_first short = grind (arith, cases_lt, whole, front_same, inside)

  -- the first bytes are a word where the first piece is
  pub word_of_first : (k : Kind) → IsShort k → is_word k (first_piece (pieces text)) ≡ is_word k (take n w)
  word_of_first k short = grind (arith, cases_lt, short_first, length-take-le, inside, too_long)

  pub word_is_short : (k : Kind) → IsShort k → is_word k (take n w) ≡ true → n < 16
  word_is_short k short fits = grind (arith, length-take-le, inside)

  -- a short piece that doesn't end the line: the other pieces are those of what follows its hyphen
  pub after_short : n < 16 → n ≢ len → pieces text ≡ take n w ∷ pieces next
  after_short few more = grind (arith, inside, later_bytes, whole, front_same)

  pub after_word : (k : Kind) → IsShort k → is_word k (take n w) ≡ true → n ≢ len →
      pieces text ≡ take n w ∷ pieces next
  after_word k short fits more = grind (arith, after_short, word_is_short)

  -- a short piece, and a word, that ends the line
  pub whole_short : n < 16 → n ≡ len → pieces text ≡ take n w ∷ []
  whole_short few end = grind (arith, whole)

  pub whole_word : (k : Kind) → IsShort k → is_word k (take n w) ≡ true → n ≡ len →
      pieces text ≡ take n w ∷ []
  whole_word k short fits end = grind (arith, whole_short, word_is_short)
