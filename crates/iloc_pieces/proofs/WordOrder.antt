-- The numbers of words have the order of the words.
use Rattle.std.proofs.Common.{◌≡◌, ℕ, zero, suc, ◌+◌, ◌*◌, ◌^◌, ◌<◌, ◌≤◌, true, [], ◌∷◌, length, get_or, refl, sym, ap, ◌∙◌, arith, inl, inr}
use Rattle.std.specs.List.{AllByRecursion}
use Rattle.std.specs.Ordering.{nat_cmp, ordering_then}
use Rattle.std.specs.Cmp.{nat_cmp_is}
use Rattle.std.specs.Cmp.Lexicographic.{slice_cmp}
use Rattle.std.specs.declared.cmp.Ordering.TheVariants.{Less, Equal, Greater}
use Rattle.std.specs.Char.{is_ascii_alphanumeric, to_ascii_lowercase}
use Rattle.std.proofs.lemmas.Bool.{and_parts, cases_lt}
use Rattle.std.proofs.lemmas.Bool.Decides.{nat_tests}
use Rattle.std.proofs.Math.Nat.{mul-le-mul_right}
use Rattle.iloc_spec_grammar.specs.Syntax.{Text, Attribute, Variant, IsWord, letters_or_digits, lower, word_cmp}
use Rattle.iloc_spec_grammar.proofs.WordsLaws.{length-attribute, length-variant, length-lower, word_letters_or_digits}
use Rattle.iloc_pieces.specs.Words.{IsUpToEight, high_first, word_number}
use Rattle.iloc_pieces.proofs.WordNumbers.{pow_some, number_fits}

-- ---- how great they are

abbrev Bytes : Text → Type 0
Bytes p = (i : ℕ) → get_or p i 0 < 256

-- ---- the order of words

-- bytes above zero
abbrev AreAbove : Text → Type 0
AreAbove p = AllByRecursion (λ b. (0 < b) × (b < 256)) p

above_bytes : (p : Text) → AreAbove p → Bytes p
above_bytes [] h i = omega arith
above_bytes (b ∷ p) h zero = h.0.1
above_bytes (b ∷ p) h (suc i) = above_bytes p h.1 i

above_word : (p : Text) → letters_or_digits p ≡ true → AreAbove (lower p)
unfolding lower
above_word [] h = tt
above_word (b ∷ p) h = let parts = and_parts _ _ h in (byte b parts.0, above_word p parts.1)
  where
    byte : (b : ℕ) → is_ascii_alphanumeric b ≡ true →
        (0 < to_ascii_lowercase b) × (to_ascii_lowercase b < 256)
    byte b e = (grind (arith, nat_tests), grind (arith, nat_tests))

pub is_less : (x y : ℕ) → x < y → nat_cmp x y ≡ Less
is_less x y l = sym (nat_cmp_is x y Less l)

is_equal : (x y : ℕ) → x ≡ y → nat_cmp x y ≡ Equal
is_equal x y e = sym (nat_cmp_is x y Equal e)

pub is_greater : (x y : ℕ) → y < x → nat_cmp x y ≡ Greater
is_greater x y l = sym (nat_cmp_is x y Greater l)

first_counts : (a b w x y : ℕ) → a < b → x < w → a * w + x < b * w + y
first_counts a b w x y l f = grind (arith, mul-le-mul_right)

rest_counts : (w x y : ℕ) → nat_cmp (w + x) (w + y) ≡ nat_cmp x y
rest_counts w x y = grind (arith, cases_lt, is_less, is_greater, is_equal)

order : (n : ℕ) (p q : Text) → length p ≤ n → length q ≤ n → AreAbove p → AreAbove q →
    nat_cmp (high_first n p) (high_first n q) ≡ slice_cmp nat_cmp p q
unfolding high_first
order zero [] [] l m h k = refl
order zero (a ∷ p) q l m h k = absurd (omega arith)
order zero [] (b ∷ q) l m h k = absurd (omega arith)
order (suc n) [] [] l m h k = refl
order (suc n) [] (b ∷ q) l m h k = is_less 0 (b * 256 ^ n + high_first n q)
    (omega (arith, first_counts 0 b (256 ^ n) 0 (high_first n q) k.0.0 (pow_some n)))
order (suc n) (a ∷ p) [] l m h k = is_greater (a * 256 ^ n + high_first n p) 0
    (omega (arith, first_counts 0 a (256 ^ n) 0 (high_first n p) h.0.0 (pow_some n)))
order (suc n) (a ∷ p) (b ∷ q) l m h k =
    elim (cases_lt a b) [
      | inl less ↦ is_less _ _ (first_counts a b (256 ^ n) (high_first n p) (high_first n q) less
          (number_fits n p (above_bytes p h.1)))
          ∙ sym (ap (λ o. ordering_then o (slice_cmp nat_cmp p q)) (is_less a b less))
      | inr other ↦ elim (cases_lt b a) [
        | inl less ↦ is_greater _ _ (first_counts b a (256 ^ n) (high_first n q) (high_first n p) less
            (number_fits n q (above_bytes q k.1)))
            ∙ sym (ap (λ o. ordering_then o (slice_cmp nat_cmp p q)) (is_greater a b less))
        | inr same ↦ grind (arith, rest_counts, order n p q (omega arith) (omega arith) h.1 k.1, is_equal)
      ]
    ]

-- words are ordered as their numbers are
pub word_order : (p q : Text) → IsUpToEight p → IsUpToEight q →
    nat_cmp (word_number p) (word_number q) ≡ word_cmp (lower p) (lower q)
unfolding word_number
word_order p q h k = grind (arith, order, length-lower, above_word)

pub attribute_fits : (p : Text) → IsWord Attribute p → IsUpToEight p
attribute_fits p h = grind (arith, length-attribute, word_letters_or_digits)

pub variant_fits : (p : Text) → IsWord Variant p → IsUpToEight p
variant_fits p h = grind (arith, length-variant, word_letters_or_digits)
