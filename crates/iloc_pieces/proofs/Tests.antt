-- The tests of shapes, one for each kind of words: each is a table of 512, and a bound.
use Rattle.std.proofs.Common.{◌≡◌, ℕ, ◌≤◌, nat_le, cond, false, ◌&&◌, ◌||◌, refl, bit_or, bit_and, arith}
use Rattle.std.specs.Prelude.{nat_eq, nat_lt}
use Rattle.std.proofs.lemmas.Bool.{eqb-true, false_from_ne_true}
use Rattle.std.proofs.lemmas.Bool.Decides.{nat_tests}
use Rattle.std.proofs.lemmas.Nat.{le_or_l}
use Rattle.iloc_spec_grammar.specs.Syntax.{Text, Language, Script, Region, Variant, Subtag, UnicodeKey, TransformKey, Attribute, PrivateSubtag, SubdivisionSuffix, CurrencyType, IsWord, is_word, languages}
use Rattle.iloc_spec_grammar.proofs.WordsLaws.{length-script, length-transform_key, length-variant}
use Rattle.iloc_pieces.specs.Shape.{shape_of}
use Rattle.iloc_pieces.proofs.Shapes.{by_shape, spell}

language_many : (s : ℕ) → 512 ≤ s →
    (nat_eq s 4 || (nat_eq s 8 || (nat_eq s 32 || (nat_eq s 64 || (nat_eq s 128 || nat_eq s 256))))) ≡ false
language_many s more = grind (arith, nat_tests)

pub language_is : (p : Text) →
    is_word (Language languages) p
    ≡ (nat_eq (shape_of p) 4
    || (nat_eq (shape_of p) 8
    || (nat_eq (shape_of p) 32
    || (nat_eq (shape_of p) 64 || (nat_eq (shape_of p) 128 || nat_eq (shape_of p) 256)))))
unfolding is_word spell languages
language_is p = by_shape (Language languages)
    (λ s. nat_eq s 4 || (nat_eq s 8 || (nat_eq s 32 || (nat_eq s 64 || (nat_eq s 128 || nat_eq s 256)))))
    (λ n h. grind (arith, nat_tests)) refl language_many p

script_many : (s : ℕ) → 512 ≤ s → (nat_eq s 16) ≡ false
script_many s more = grind (arith, nat_tests)

pub script_is : (p : Text) → is_word Script p ≡ (nat_eq (shape_of p) 16)
unfolding is_word spell
script_is p = by_shape Script (λ s. nat_eq s 16) tt refl script_many p

region_many : (s : ℕ) → 512 ≤ s → (nat_eq s 4 || nat_eq s 15) ≡ false
region_many s more = grind (arith, nat_tests)

pub region_is : (p : Text) → is_word Region p ≡ (nat_eq (shape_of p) 4 || nat_eq (shape_of p) 15)
unfolding is_word spell
region_is p = by_shape Region (λ s. nat_eq s 4 || nat_eq s 15) tt refl region_many p

variant_many : (s : ℕ) → 512 ≤ s →
    (cond (nat_lt s 32) (nat_lt 16 s && nat_eq (bit_and s 1) 1) (nat_lt s 512)) ≡ false
variant_many s more = grind (arith, nat_tests)

pub variant_is : (p : Text) →
    is_word Variant p
    ≡ (cond (nat_lt (shape_of p) 32) (nat_lt 16 (shape_of p) && nat_eq (bit_and (shape_of p) 1) 1)
    (nat_lt (shape_of p) 512))
unfolding is_word spell
variant_is p = by_shape Variant
    (λ s. cond (nat_lt s 32) (nat_lt 16 s && nat_eq (bit_and s 1) 1) (nat_lt s 512))
    tt refl variant_many p

key_many : (s : ℕ) → 512 ≤ s → (nat_eq (bit_or s 1) 5) ≡ false
key_many s more = let l = le_or_l s 1 in grind (arith, nat_tests)

pub key_is : (p : Text) → is_word UnicodeKey p ≡ (nat_eq (bit_or (shape_of p) 1) 5)
unfolding is_word spell
key_is p = by_shape UnicodeKey (λ s. nat_eq (bit_or s 1) 5) tt refl key_many p

field_key_many : (s : ℕ) → 512 ≤ s → (nat_eq s 6) ≡ false
field_key_many s more = grind (arith, nat_tests)

pub field_key_is : (p : Text) → is_word TransformKey p ≡ (nat_eq (shape_of p) 6)
unfolding is_word spell
field_key_is p = by_shape TransformKey (λ s. nat_eq s 6) tt refl field_key_many p

attribute_many : (s : ℕ) → 512 ≤ s → (nat_le 8 s && nat_lt s 512) ≡ false
attribute_many s more = grind (arith, nat_tests)

pub attribute_is : (p : Text) → is_word Attribute p ≡ (nat_le 8 (shape_of p) && nat_lt (shape_of p) 512)
unfolding is_word spell
attribute_is p = by_shape Attribute (λ s. nat_le 8 s && nat_lt s 512) tt refl attribute_many p

subtag_many : (s : ℕ) → 512 ≤ s → (nat_le 4 s && nat_lt s 512) ≡ false
subtag_many s more = grind (arith, nat_tests)

pub subtag_is : (p : Text) → is_word Subtag p ≡ (nat_le 4 (shape_of p) && nat_lt (shape_of p) 512)
unfolding is_word spell
subtag_is p = by_shape Subtag (λ s. nat_le 4 s && nat_lt s 512) tt refl subtag_many p

private_many : (s : ℕ) → 512 ≤ s → (nat_le 2 s && nat_lt s 512) ≡ false
private_many s more = grind (arith, nat_tests)

pub private_is : (p : Text) → is_word PrivateSubtag p ≡ (nat_le 2 (shape_of p) && nat_lt (shape_of p) 512)
unfolding is_word spell
private_is p = by_shape PrivateSubtag (λ s. nat_le 2 s && nat_lt s 512) tt refl private_many p

suffix_many : (s : ℕ) → 512 ≤ s → (nat_le 2 s && nat_lt s 32) ≡ false
suffix_many s more = grind (arith, nat_tests)

pub suffix_is : (p : Text) → is_word SubdivisionSuffix p ≡ (nat_le 2 (shape_of p) && nat_lt (shape_of p) 32)
unfolding is_word spell
suffix_is p = by_shape SubdivisionSuffix (λ s. nat_le 2 s && nat_lt s 32) tt refl suffix_many p

currency_many : (s : ℕ) → 512 ≤ s → (nat_eq s 8) ≡ false
currency_many s more = grind (arith, nat_tests)

pub currency_is : (p : Text) → is_word CurrencyType p ≡ (nat_eq (shape_of p) 8)
unfolding is_word spell
currency_is p = by_shape CurrencyType (λ s. nat_eq s 8) tt refl currency_many p

-- ---- keys of `t`

-- no key is a script, a region or a variant
pub key_no_script : (p : Text) → IsWord TransformKey p → is_word Script p ≡ false
key_no_script p h = false_from_ne_true _
    (λ e. let k = length-script p e in let n = length-transform_key p h in absurd (omega arith))

pub key_no_variant : (p : Text) → IsWord TransformKey p → is_word Variant p ≡ false
key_no_variant p h = false_from_ne_true _
    (λ e. let k = length-variant p e in let n = length-transform_key p h in absurd (omega arith))

pub key_no_region : (p : Text) → IsWord TransformKey p → is_word Region p ≡ false
key_no_region p h = grind (arith, region_is, eqb-true, field_key_is)
