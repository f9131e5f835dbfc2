-- Normal words are words, and normal. Kinds that stand side by side have no word in common.
use Rattle.std.proofs.Common.{◌≡◌, inl, inr, ℕ, zero, suc, ◌≤◌, Bool, true, false, ◌&&◌, ◌||◌, ◌==◌, [], ◌∷◌, length, map, slice_index, refl, sym, ap, ap₂, ◌∙◌, arith, ◌↔◌}
use Rattle.std.specs.List.{list_all}
use Rattle.std.specs.Char.{is_ascii_alphabetic, is_ascii_digit, is_ascii_alphanumeric, to_ascii_lowercase, to_ascii_uppercase}
use Rattle.std.specs.Int.{is_in_range}
use Rattle.std.proofs.lemmas.Bool.{and_parts, or_cases, false_from_ne_true}
use Rattle.std.proofs.lemmas.Bool.Decides.{nat_tests}
use Rattle.std.proofs.lemmas.List.{length-map}
use Rattle.std.proofs.lemmas.Str.Ascii.{lowercase-lowercase, lowercase-uppercase}
use Rattle.iloc_spec_grammar.specs.Syntax.{LanguageLengths, Text, Kind, Language, Script, Region, Variant, UnicodeKey, TransformKey, Attribute, CurrencyType, letters, digits, letters_or_digits, is_word, IsWord, lower, upper, title, normal}
use Rattle.iloc_spec_grammar.proofs.General.{map-then, list_all-mapped}

-- bytes

pub alphabetic-lower : (c : ℕ) → is_ascii_alphabetic (to_ascii_lowercase c) ≡ is_ascii_alphabetic c
alphabetic-lower c = grind (arith, nat_tests)

digit-lower : (c : ℕ) → is_ascii_digit (to_ascii_lowercase c) ≡ is_ascii_digit c
digit-lower c = grind (arith, nat_tests)

alphanumeric-lower : (c : ℕ) → is_ascii_alphanumeric (to_ascii_lowercase c) ≡ is_ascii_alphanumeric c
alphanumeric-lower c = grind (arith, nat_tests)

uppercase-lowercase : (c : ℕ) → to_ascii_uppercase (to_ascii_lowercase c) ≡ to_ascii_uppercase c
uppercase-lowercase c = grind (arith, nat_tests)

-- lists of bytes

at-map : (f : ℕ → Bool) → ((c : ℕ) → f (to_ascii_lowercase c) ≡ f c) → (p : Text) (i : ℕ) →
    f (slice_index (map to_ascii_lowercase p) i) ≡ f (slice_index p i)
at-map f h [] i = refl
at-map f h (c ∷ p) zero = h c
at-map f h (c ∷ p) (suc i) = at-map f h p i

pub lower-lower : (p : Text) → lower (lower p) ≡ lower p
unfolding lower
lower-lower p = map-then _ _ _ lowercase-lowercase p

pub lower-upper : (p : Text) → lower (upper p) ≡ lower p
unfolding lower upper
lower-upper p = map-then _ _ _ lowercase-uppercase p

pub lower-title : (p : Text) → lower (title p) ≡ lower p
unfolding lower upper title
lower-title [] = refl
lower-title (c ∷ p) = ap₂ ◌∷◌ (lowercase-uppercase c) (map-then _ _ _ lowercase-lowercase p)

pub upper-lower : (p : Text) → upper (lower p) ≡ upper p
unfolding lower upper
upper-lower p = map-then _ _ _ uppercase-lowercase p

pub title-lower : (p : Text) → title (lower p) ≡ title p
unfolding lower upper title
title-lower [] = refl
title-lower (c ∷ p) = ap₂ ◌∷◌ (uppercase-lowercase c) (map-then _ _ _ lowercase-lowercase p)

pub length-lower : (p : Text) → length (lower p) ≡ length p
unfolding lower
length-lower p = length-map p to_ascii_lowercase

-- a word in any case is a word
pub is_word-lower : (k : Kind) (p : Text) → is_word k (lower p) ≡ is_word k p
unfolding is_word lower
is_word-lower (Language T) p = ap₂ ◌&&◌ (ap T (length-lower p)) (list_all-mapped _ _ _ alphabetic-lower p)
is_word-lower Script p = grind (arith, ap₂, length-lower, list_all-mapped, alphabetic-lower)
is_word-lower Region p =
    ap₂ ◌||◌ (grind (arith, length-lower, list_all-mapped, alphabetic-lower))
    (ap₂ ◌&&◌ (ap (λ n. n == 3) (length-lower p)) (list_all-mapped _ _ _ digit-lower p))
is_word-lower Variant p = ap₂ ◌&&◌
    (ap₂ ◌||◌ (ap (is_in_range 5 8) (length-lower p))
    (ap₂ ◌&&◌ (ap (λ n. n == 4) (length-lower p)) (at-map _ digit-lower p 0)))
    (list_all-mapped _ _ _ alphanumeric-lower p)
is_word-lower UnicodeKey p = ap₂ ◌&&◌ (ap (λ n. n == 2) (length-lower p))
    (ap₂ ◌&&◌ (at-map _ alphanumeric-lower p 0) (at-map _ alphabetic-lower p 1))
is_word-lower TransformKey p = ap₂ ◌&&◌ (ap (λ n. n == 2) (length-lower p))
    (ap₂ ◌&&◌ (at-map _ alphabetic-lower p 0) (at-map _ digit-lower p 1))
is_word-lower CurrencyType p = grind (arith, ap₂, length-lower, list_all-mapped, alphabetic-lower)
is_word-lower _ p = grind (arith, ap₂, length-lower, list_all-mapped, alphanumeric-lower)

pub is_word-same : (k : Kind) (p q : Text) → lower p ≡ lower q → is_word k p ≡ is_word k q
is_word-same k p q e = sym (is_word-lower k p) ∙ ap (is_word k) e ∙ is_word-lower k q

pub lower-normal : (k : Kind) (p : Text) → lower (normal k p) ≡ lower p
lower-normal Script p = lower-title p
lower-normal Region p = lower-upper p
lower-normal _ p = lower-lower p

-- the normal form depends on the lower case alone
pub normal-lower : (k : Kind) (p : Text) → normal k (lower p) ≡ normal k p
normal-lower Script p = title-lower p
normal-lower Region p = upper-lower p
normal-lower _ p = lower-lower p

pub normal-normal : (k : Kind) (p : Text) → normal k (normal k p) ≡ normal k p
normal-normal k p = sym (normal-lower k (normal k p)) ∙ ap (normal k) (lower-normal k p) ∙ normal-lower k p

pub is_word-normal : (k : Kind) (p : Text) → is_word k (normal k p) ≡ is_word k p
is_word-normal k p = is_word-same k _ _ (lower-normal k p)

pub length-normal : (k : Kind) (p : Text) → length (normal k p) ≡ length p
length-normal k p = sym (length-lower (normal k p)) ∙ ap length (lower-normal k p) ∙ length-lower p

pub same_normal : (k : Kind) (p q : Text) → (normal k p ≡ normal k q) ↔ (lower p ≡ lower q)
same_normal k p q = (
  λ e. sym (lower-normal k p) ∙ ap lower e ∙ lower-normal k q,
  λ e. sym (normal-lower k p) ∙ ap (normal k) e ∙ normal-lower k q,
)

-- the laws of normal words
pub ruleset normal_words_laws = (is_word-normal, normal-normal, length-normal, same_normal)

-- lengths and first bytes

pub length-language : (T : LanguageLengths) (p : Text) → IsWord (Language T) p → T (length p) ≡ true
unfolding is_word
length-language T p h = (and_parts _ _ h).0

pub length-script : (p : Text) → IsWord Script p → length p ≡ 4
unfolding is_word
length-script p h = grind (arith, nat_tests)

pub length-region : (p : Text) → IsWord Region p → (2 ≤ length p) × (length p ≤ 3)
unfolding is_word
length-region p h = grind (arith, nat_tests)

pub length-variant : (p : Text) → IsWord Variant p → (4 ≤ length p) × (length p ≤ 8)
unfolding is_word
length-variant p h = grind (arith, nat_tests)

pub length-attribute : (p : Text) → IsWord Attribute p → (3 ≤ length p) × (length p ≤ 8)
unfolding is_word
length-attribute p h = grind (arith, nat_tests)

pub length-unicode_key : (p : Text) → IsWord UnicodeKey p → length p ≡ 2
unfolding is_word
length-unicode_key p h = grind (arith, nat_tests)

pub length-transform_key : (p : Text) → IsWord TransformKey p → length p ≡ 2
unfolding is_word
length-transform_key p h = grind (arith, nat_tests)

-- kinds with no word in common

pub region_no_script : (p : Text) → IsWord Region p → is_word Script p ≡ false
region_no_script p h =
    false_from_ne_true _ (λ s. let a = length-script p s in let b = length-region p h in absurd (omega arith))

pub variant_no_region : (p : Text) → IsWord Variant p → is_word Region p ≡ false
variant_no_region p h = false_from_ne_true _
    (λ s. let a = length-region p s in let b = length-variant p h in absurd (omega arith))

pub digit_no_letter : (c : ℕ) → is_ascii_digit c ≡ true → is_ascii_alphabetic c ≡ false
digit_no_letter c h = grind (arith, nat_tests)

first_letter : (p : Text) → IsWord Script p → is_ascii_alphabetic (slice_index p 0) ≡ true
unfolding is_word
first_letter [] h = cc
first_letter (c ∷ p) h = (and_parts _ _ ((and_parts _ _ h).1)).0

pub variant_no_script : (p : Text) → IsWord Variant p → is_word Script p ≡ false
unfolding is_word
variant_no_script p h = false_from_ne_true _ (λ s. let a = first_letter p s in grind arith)

-- each byte of a word is a letter or a digit

pub every : (f g : ℕ → Bool) → ((c : ℕ) → f c ≡ true → g c ≡ true) → (p : Text) → list_all f p ≡ true →
    list_all g p ≡ true
every f g h [] a = refl
every f g h (c ∷ p) a = let parts = and_parts _ _ a in ap₂ ◌&&◌ (h c parts.0) (every f g h p parts.1)

pub letter_is : (c : ℕ) → is_ascii_alphabetic c ≡ true → is_ascii_alphanumeric c ≡ true
letter_is c h = grind (arith, nat_tests)

pub digit_is : (c : ℕ) → is_ascii_digit c ≡ true → is_ascii_alphanumeric c ≡ true
digit_is c h = cc

two_are : (f g : ℕ → Bool) → ((c : ℕ) → f c ≡ true → is_ascii_alphanumeric c ≡ true) →
    ((c : ℕ) → g c ≡ true → is_ascii_alphanumeric c ≡ true) → (p : Text) → (length p == 2) ≡ true →
    f (slice_index p 0) ≡ true → g (slice_index p 1) ≡ true → letters_or_digits p ≡ true
two_are f g h k [] e a b = refl
two_are f g h k (c ∷ []) e a b = cc
two_are f g h k (c ∷ d ∷ []) e a b = grind (arith, ap₂)
two_are f g h k (c ∷ d ∷ x ∷ p) e a b = grind (arith, nat_tests)

pub word_letters_or_digits : (k : Kind) (p : Text) → IsWord k p → letters_or_digits p ≡ true
unfolding is_word
word_letters_or_digits (Language T) p h = every _ _ letter_is p (and_parts _ _ h).1
word_letters_or_digits Script p h = every _ _ letter_is p (and_parts _ _ h).1
word_letters_or_digits CurrencyType p h = every _ _ letter_is p (and_parts _ _ h).1
word_letters_or_digits Region p h =
    elim (or_cases ((length p == 2) && letters p) ((length p == 3) && digits p) h)
    [ inl a ↦ every _ _ letter_is p (and_parts _ _ a).1 | inr a ↦ every _ _ digit_is p (and_parts _ _ a).1 ]
word_letters_or_digits UnicodeKey p h =
    let a = and_parts _ _ h in let b = and_parts _ _ a.1 in two_are _ _ (λ c e. e) letter_is p a.0 b.0 b.1
word_letters_or_digits TransformKey p h =
    let a = and_parts _ _ h in let b = and_parts _ _ a.1 in two_are _ _ letter_is digit_is p a.0 b.0 b.1
word_letters_or_digits _ p h = (and_parts _ _ h).1
