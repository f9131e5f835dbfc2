-- A piece of at most eight bytes is a word of the same kinds as the text that its shape spells. So a test of
-- a word is one of its shape where the two agree on 512 numbers.
use Rattle.std.proofs.Common.{◌≡◌, ℕ, zero, suc, ◌+◌, ◌*◌, ◌/◌, ◌%◌, ◌^◌, ◌<◌, ◌≤◌, ◌==◌, nat_le, Bool, true, false, cond, ◌&&◌, ◌||◌, [], ◌∷◌, length, map, slice_index, refl, sym, ap, ap₂, ◌∙◌, arith, inl, inr, pow-suc}
use Rattle.std.specs.Int.{is_in_range}
use Rattle.std.specs.Char.{is_ascii_alphabetic, is_ascii_digit, is_ascii_alphanumeric}
use Rattle.std.proofs.lemmas.Bool.{agree_below, agree_below_at, and_parts, cases_Bool, cases_lt, false_from_ne_true}
use Rattle.std.proofs.lemmas.Bool.Decides.{nat_tests}
use Rattle.std.proofs.lemmas.List.{length-map}
use Rattle.std.proofs.lemmas.Nat.{pow_pos}
use Rattle.iloc_spec_grammar.specs.Syntax.{Text, Kind, Language, Script, Region, Variant, Subtag, UnicodeKey, TransformKey, Attribute, PrivateSubtag, SubdivisionSuffix, CurrencyType, letters_or_digits, is_word, IsWord, Bounds}
use Rattle.iloc_spec_grammar.proofs.General.{list_all-mapped}
use Rattle.iloc_spec_grammar.proofs.WordsLaws.{word_letters_or_digits}
use Rattle.iloc_pieces.specs.Shape.{bits, shape_of}

-- ---- words by the classes of their bytes

-- a byte of the same class: a letter, a digit or another
abbrev typical : ℕ → ℕ
typical b = cond (is_ascii_alphabetic b) 97 (cond (is_ascii_digit b) 48 45)

letter : (b : ℕ) → is_ascii_alphabetic (typical b) ≡ is_ascii_alphabetic b
letter b = grind (arith, nat_tests)

digit : (b : ℕ) → is_ascii_digit (typical b) ≡ is_ascii_digit b
digit b = grind (arith, nat_tests)

either : (b : ℕ) → is_ascii_alphanumeric (typical b) ≡ is_ascii_alphanumeric b
either b = grind (arith, nat_tests)

at-map : (f : ℕ → Bool) → ((b : ℕ) → f (typical b) ≡ f b) → (p : Text) (i : ℕ) →
    f (slice_index (map typical p) i) ≡ f (slice_index p i)
at-map f h [] i = refl
at-map f h (b ∷ p) zero = h b
at-map f h (b ∷ p) (suc i) = at-map f h p i

long : (f : ℕ → Bool) (p : Text) → f (length (map typical p)) ≡ f (length p)
long f p = ap f (length-map p typical)

typical_word : (k : Kind) (p : Text) → is_word k (map typical p) ≡ is_word k p
unfolding is_word
typical_word (Language T) p = ap₂ ◌&&◌ (long T p) (list_all-mapped _ _ _ letter p)
typical_word Script p = ap₂ ◌&&◌ (long (λ n. n == 4) p) (list_all-mapped _ _ _ letter p)
typical_word Region p = ap₂ ◌||◌ (ap₂ ◌&&◌ (long (λ n. n == 2) p) (list_all-mapped _ _ _ letter p))
    (ap₂ ◌&&◌ (long (λ n. n == 3) p) (list_all-mapped _ _ _ digit p))
typical_word Variant p =
    ap₂ ◌&&◌ (ap₂ ◌||◌ (long (is_in_range 5 8) p) (ap₂ ◌&&◌ (long (λ n. n == 4) p) (at-map _ digit p 0)))
    (list_all-mapped _ _ _ either p)
typical_word Subtag p = ap₂ ◌&&◌ (long (is_in_range 2 8) p) (list_all-mapped _ _ _ either p)
typical_word UnicodeKey p =
    ap₂ ◌&&◌ (long (λ n. n == 2) p) (ap₂ ◌&&◌ (at-map _ either p 0) (at-map _ letter p 1))
typical_word TransformKey p =
    ap₂ ◌&&◌ (long (λ n. n == 2) p) (ap₂ ◌&&◌ (at-map _ letter p 0) (at-map _ digit p 1))
typical_word Attribute p = ap₂ ◌&&◌ (long (is_in_range 3 8) p) (list_all-mapped _ _ _ either p)
typical_word PrivateSubtag p = ap₂ ◌&&◌ (long (is_in_range 1 8) p) (list_all-mapped _ _ _ either p)
typical_word SubdivisionSuffix p = ap₂ ◌&&◌ (long (is_in_range 1 4) p) (list_all-mapped _ _ _ either p)
typical_word CurrencyType p = ap₂ ◌&&◌ (long (λ n. n == 3) p) (list_all-mapped _ _ _ letter p)

-- ---- the text that a shape spells

-- at most n letters and digits
abbrev pub spell_bits : ℕ → ℕ → Text
spell_bits zero s = []
spell_bits (suc n) s = cond (nat_le s 1) [] (cond (s % 2 == 1) 48 97 ∷ spell_bits n (s / 2))

-- at most eight, or a hyphen for what is no word
unfoldable pub spell : ℕ → Text
spell s = cond (s == 0) (45 ∷ []) (spell_bits 8 s)

step_by : (a : Bool) (c n m : ℕ) → c ≡ cond a 0 1 → 0 < m →
    spell_bits (suc n) (c + 2 * m) ≡ cond a 97 48 ∷ spell_bits n m
step_by a c n m h k = grind arith

step : (a : Bool) (n m : ℕ) → 0 < m → spell_bits (suc n) (cond a 0 1 + 2 * m) ≡ cond a 97 48 ∷ spell_bits n m
step a n m l = step_by a (cond a 0 1) n m refl l

pub some_bits : (p : Text) → 0 < bits p
unfolding bits
some_bits [] = omega arith
some_bits (b ∷ p) = omega (arith, some_bits p)

few_bits : (n : ℕ) (p : Text) → length p ≤ n → bits p < 2 ^ suc n
unfolding bits
few_bits zero [] l = omega arith
few_bits zero (b ∷ p) l = absurd (omega arith)
few_bits (suc n) [] l = grind (arith, pow-suc, pow_pos)
few_bits (suc n) (b ∷ p) l = grind (arith, pow-suc, few_bits n p)

word_byte : (b : ℕ) → is_ascii_alphanumeric b ≡ true → cond (is_ascii_alphabetic b) 97 48 ≡ typical b
word_byte b h = grind (arith, nat_tests)

spelled : (n : ℕ) (p : Text) → length p ≤ n → letters_or_digits p ≡ true →
    spell_bits n (bits p) ≡ map typical p
unfolding bits
spelled zero [] l h = refl
spelled zero (b ∷ p) l h = absurd (omega arith)
spelled (suc n) [] l h = refl
spelled (suc n) (b ∷ p) l h = grind (arith, and_parts, step, some_bits, word_byte, spelled n p)

-- ---- words by their shapes

no_word : (k : Kind) → is_word k (spell 0) ≡ false
unfolding is_word spell
no_word k = grind arith

-- the bits of at least n bytes
many_bits : (n : ℕ) (p : Text) → n ≤ length p → 2 ^ n ≤ bits p
unfolding bits
many_bits zero p l = omega (arith, some_bits p)
many_bits (suc n) [] l = absurd (omega arith)
many_bits (suc n) (b ∷ p) l = grind (arith, pow-suc, many_bits n p)

-- no word is longer than eight bytes
pub few_bytes : (k : Kind) → Bounds 8 k → (p : Text) → IsWord k p → length p ≤ 8
unfolding is_word
few_bytes k h p e = grind (arith, and_parts)

-- what has another byte is none
shape_of_none : (p : Text) → letters_or_digits p ≡ false → shape_of p ≡ 0
unfolding shape_of
shape_of_none p h = ap (λ (a : Bool). cond a (bits p) 0) h

pub shape_of_one : (p : Text) → letters_or_digits p ≡ true → shape_of p ≡ bits p
unfolding shape_of
shape_of_one p h = ap (λ (a : Bool). cond a (bits p) 0) h

spell_of : (k : Kind) (p : Text) → length p ≤ 8 → letters_or_digits p ≡ true →
    is_word k p ≡ is_word k (spell (bits p))
unfolding spell
spell_of k p few all =
    let some : (bits p == 0) ≡ false = let l = some_bits p in grind (arith, nat_tests) in
    sym (typical_word k p) ∙ ap (is_word k) (sym (spelled 8 p few all))
    ∙ sym (ap (λ (a : Bool). is_word k (cond a (45 ∷ []) (spell_bits 8 (bits p)))) some)

-- a test of shapes that agrees with what they spell, and which no greater number passes, tells the words
pub by_shape : (k : Kind) (t : ℕ → Bool) → Bounds 8 k → agree_below t (λ s. is_word k (spell s)) 512 ≡ true →
    ((s : ℕ) → 512 ≤ s → t s ≡ false)
    → (p : Text) → is_word k p ≡ t (shape_of p)
by_shape k t ends e many p = elim (cases_Bool (letters_or_digits p)) [
  | inl all ↦ elim (cases_lt (length p) 9) [
    | inl few ↦
        let l : length p ≤ 8 = omega arith in
        spell_of k p l all ∙ sym (agree_below_at t (λ s. is_word k (spell s)) 512 (bits p) e (few_bits 8 p l))
        ∙ ap t (sym (shape_of_one p all))
    | inr more ↦
        let no : is_word k p ≡ false =
        false_from_ne_true _ (λ h. let l = few_bytes k ends p h in absurd (omega arith)) in
        no ∙ sym (ap t (shape_of_one p all) ∙ many (bits p) (many_bits 9 p more))
  ]
  | inr odd ↦
      let no : is_word k p ≡ false =
      false_from_ne_true _ (λ h. let all = word_letters_or_digits k p h in absurd (cc)) in
      no ∙ sym (no_word k) ∙ sym (agree_below_at t (λ s. is_word k (spell s)) 512 0 e (omega arith))
      ∙ ap t (sym (shape_of_none p odd))
]
