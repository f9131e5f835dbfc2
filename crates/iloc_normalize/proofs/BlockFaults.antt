-- The fault of a data locale by its first block, and the head before it.
use Rattle.std.proofs.Common.{◌≡◌, inl, inr, ℕ, Bool, true, false, cond, ◌&&◌, List, [], ◌∷◌, Ok, Err, refl, sym, ap, ◌∙◌, arith}
use Rattle.std.specs.Prelude.{if◌then◌else◌}
use Rattle.std.specs.Char.{is_ascii_alphanumeric}
use Rattle.std.specs.List.{list_all}
use Rattle.std.proofs.lemmas.Bool.{cases_Bool, true≢false}
use Rattle.std.proofs.lemmas.Bool.Decides.{nat_tests}
use Rattle.iloc_spec_grammar.specs.Syntax.{Text, Kind, Language, UnicodeKey, Attribute, is_word, IsWord, languages, front, blocks, first_piece}
use Rattle.iloc_spec_grammar.specs.Meaning.{normal_values, Fault}
use Rattle.iloc_spec_grammar.specs.Reading.{skip_first, identifier_of, after_region}
use Rattle.iloc_spec_grammar.specs.Meaning as faults
use Rattle.iloc_spec_grammar.proofs.Readings.{IsLong, long_script, long_region, long_attribute, blocks_skip, not_two, two}
use Rattle.iloc_spec_parts.specs.SmallComputing.{small_identifier, small_identifier_result, has_small_variants, is_u, has_small_keyword, block_fault}

and_both : (a b : Bool) → (a && b) ≡ true → (a ≡ true) × (b ≡ true)
and_both true b e = (refl, e)
and_both false b e = absurd (true≢false (sym e))

-- ---- pieces that make no small keyword

pub no_key : (qs : List Text) → is_word UnicodeKey (first_piece qs) ≡ false → has_small_keyword qs ≡ false
no_key [] e = refl
no_key (p ∷ qs) e = search

pub front_first : (qs : List Text) → IsLong (first_piece qs) → first_piece (front qs) ≡ first_piece qs
front_first [] e = refl
front_first (q ∷ qs) e = ap (λ (o : Bool). first_piece (cond o [] (q ∷ front qs))) e

pub attribute_no_key : (p : Text) → IsWord Attribute p → is_word UnicodeKey p ≡ false
attribute_no_key p h = elim (cases_Bool (is_word UnicodeKey p)) [
  | inl key ↦ absurd (true≢false (sym (two p key) ∙ not_two p h))
  | inr other ↦ other
]

pub key_no_attribute : (p : Text) → IsWord UnicodeKey p → is_word Attribute p ≡ false
key_no_attribute p h = elim (cases_Bool (is_word Attribute p)) [
  | inl word ↦ absurd (true≢false (sym (two p h) ∙ not_two p word))
  | inr other ↦ other
]

-- the fault by whether the singleton is a letter and `u`, and an attribute or a key follows
abbrev pub fault_by : Bool → Bool → Bool → Bool → Fault
fault_by a s x y =
    if a then (if s then
    (if x then faults.InvalidSubtag else (if y then faults.InvalidSubtag else faults.InvalidExtension)) else
    faults.InvalidSubtag)
    else faults.InvalidExtension

pub fault_is : (b : ℕ × List Text) (x y : Bool) → is_ascii_alphanumeric b.0 ≡ true → is_u b.0 ≡ true
    → is_word Attribute (first_piece b.1) ≡ x → is_word UnicodeKey (first_piece b.1) ≡ y →
    block_fault b ≡ fault_by true true x y
unfolding block_fault
fault_is b x y letter u attribute key = λ j. fault_by (letter j) (u j) (attribute j) (key j)

-- ---- pieces that make one

pub values_whole : (qs : List Text) → list_all (is_word Attribute) qs ≡ true →
    (front qs ≡ qs) × (blocks qs ≡ [])
values_whole [] h = (refl, refl)
values_whole (q ∷ qs) h =
    let parts = and_both (is_word Attribute q) (list_all (is_word Attribute) qs) h in
    search (long_attribute, values_whole qs parts.1, blocks_skip)

pub no_word : IsWord UnicodeKey [] → ⊥
unfolding is_word
no_word e = true≢false (sym e)

-- ---- the head of a text with no variants

abbrev pub PassesLong : Kind → Type 0
PassesLong k = (p : Text) → IsWord k p → IsLong p

pub skip_front : (k : Kind) → PassesLong k → (qs : List Text) →
    skip_first (is_word k) (front qs) ≡ front (skip_first (is_word k) qs)
skip_front k long [] = refl
skip_front k long (q ∷ qs) = grind arith

pub head_region : (p : Text) (qs : List Text) →
    after_region (p ∷ front qs) ≡ front (after_region (p ∷ qs))
head_region p qs = search (skip_front, long_script, long_region)

-- so the head is small
pub small_head : (p : Text) (qs : List Text) → IsWord (Language languages) p →
    has_small_variants (front (after_region (p ∷ qs))) ≡ true
    → small_identifier_result languages (p ∷ front qs) ≡ Ok (small_identifier (identifier_of (p ∷ front qs)))
unfolding small_identifier_result identifier_of
small_head p qs l h = grind arith

-- ... and one with more variants is not
pub large_head : (p : Text) (qs : List Text) → IsWord (Language languages) p →
    has_small_variants (front (after_region (p ∷ qs))) ≡ false
    → small_identifier_result languages (p ∷ front qs) ≡ Err faults.InvalidSubtag
unfolding small_identifier_result identifier_of
large_head p qs l h =
    let many : has_small_variants (identifier_of (p ∷ front qs)).variants ≡ false =
    ap has_small_variants (head_region p qs) ∙ h in
    search

-- ---- the answers

pub letter_u : (c : ℕ) → is_u c ≡ true → is_ascii_alphanumeric c ≡ true
letter_u c u = grind (arith, nat_tests)

-- ---- a singleton that is no letter and no digit

pub no_letter_no_u : (c : ℕ) → is_ascii_alphanumeric c ≡ false → is_u c ≡ false
no_letter_no_u c e = grind (arith, nat_tests)

pub unlettered_fault : (b : ℕ × List Text) → is_ascii_alphanumeric b.0 ≡ false →
    block_fault b ≡ faults.InvalidExtension
unfolding block_fault
unlettered_fault b e = rw e refl
