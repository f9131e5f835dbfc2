-- Tests of the rules: each is true exactly where the rule holds.
use Rattle.iloc_spec_grammar.specs.Syntax.{PrivateSubtag, TransformKey, kept, LanguageLengths, Field, Block, code_x, code_u, code_t, Text, Kind, Language, Script, Region, Variant, UnicodeKey, Attribute, is_word, IsWord, lower, word_cmp, SpelledIdentifier, SpelledUnicode, HasWords, IsIdentifier, IsKeyword, IsField, IsOther, lower_singleton, AllDifferent, IsPrivate}
use Rattle.std.proofs.Common.{◌+◌, arith, ◌≡◌, ◌⊎◌, ℕ, ◌<◌, Bool, true, false, not, ◌&&◌, ◌||◌, ◌==◌, List, [], ◌∷◌, length, map, sym, ◌∙◌, Option, Some, None, IfSome, true≢false, is_some, nat_lt}
use Rattle.std.specs.Int.{is_in_range}
use Rattle.std.specs.List.{AllByRecursion, list_all}
use Rattle.std.specs.declared.cmp.Ordering.{Ordering}
use Rattle.std.proofs.lemmas.Bool.{false_from_ne_true, not-true, not_from_false, both_ways}
use Rattle.iloc_spec_grammar.specs.Tree.{Extension, unicode, transform, other, extension_pieces, IsUnicodeBlock, IsTransformBlock, IsExtension, IsBlock}
use Rattle.iloc_spec_grammar.specs.Meaning.{SpellsIdentifier}
use Rattle.iloc_spec_grammar.specs.Reading.{identifier_of, extension_of}
use Rattle.iloc_spec_grammar.specs.Computing.{holds_if_some, all_different, is_identifier, is_keyword, is_unicode, is_field, is_other, is_private, is_extension, is_block}
use Rattle.iloc_spec_grammar.proofs.IdentifierLaws.{pieces-identifier_of, identifier_of-pieces}
use Rattle.iloc_spec_grammar.proofs.Readings.{extension_of-pieces, pieces-extension_of}

-- The test is true exactly where the fact holds.
pub record Tests (b : Bool) (P : Type 0) : Type 0 where
  pub holds : b ≡ true → P
  pub passes : P → b ≡ true

pub tests_not : {b : Bool} {P : Type 0} → Tests b P → b ≡ false → ¬ P
tests_not t e p = true≢false (sym (t.passes p) ∙ e)

pub tests_fails : {b : Bool} {P : Type 0} → Tests b P → ¬ P → b ≡ false
tests_fails t n = false_from_ne_true _ (λ e. n (t.holds e))

pub tests_denied : {b : Bool} {P : Type 0} → Tests b P → Tests (not b) (¬ P)
tests_denied {b = b} t = search (tests_not, not-true, not_from_false, tests_fails)

pub tests_word : (k : Kind) (p : Text) → Tests (is_word k p) (IsWord k p)
tests_word k p = search

pub tests_and : {a b : Bool} {P Q : Type 0} → Tests a P → Tests b Q → Tests (a && b) (P × Q)
tests_and {a = a} {b = b} s t = grind arith

pub tests_like : {b : Bool} {P Q : Type 0} → (P → Q) → (Q → P) → Tests b P → Tests b Q
tests_like f g t = grind arith

pub tests_all : {X : Type 0} (test : X → Bool) (P : X → Type 0) → ((x : X) → Tests (test x) (P x)) →
    (xs : List X) → Tests (list_all test xs) (AllByRecursion P xs)
tests_all test P t [] = search
tests_all test P t (x ∷ xs) = tests_and (t x) (tests_all test P t xs)

pub tests_if_some : {X : Type 0} (test : X → Bool) (P : X → Type 0) → ((x : X) → Tests (test x) (P x)) →
    (o : Option X) → Tests (holds_if_some test o) (IfSome o P)
tests_if_some test P t None = search
tests_if_some test P t (Some x) = t x

pub tests_different : {X : Type 0} (cmp : X → X → Ordering) (xs : List X) →
    Tests (all_different cmp xs) (AllDifferent cmp xs)
tests_different cmp [] = search
tests_different cmp (x ∷ xs) =
    grind (
      arith,
      tests_and,
      both_ways,
      not-true,
      not_from_false,
      false_from_ne_true,
      tests_different cmp xs,
    )

pub tests_positive : (n : ℕ) → Tests (nat_lt 0 n) (0 < n)
tests_positive n = grind arith

pub tests_nat : (m n : ℕ) → Tests (m == n) (m ≡ n)
tests_nat m n = grind arith

-- the rules

pub tests_identifier : (T : LanguageLengths) (i : SpelledIdentifier) →
    Tests (is_identifier T i) (IsIdentifier T i)
tests_identifier T i = tests_like (λ (x : HasWords T i × AllDifferent word_cmp (map lower i.variants)).
    record { words = x.0; different = x.1 }) (λ (h : IsIdentifier T i). (h.words, h.different))
    (tests_and (tests_like (λ (x : (IsWord (Language T) i.language × IfSome i.script (IsWord Script)) ×
    (IfSome i.region (IsWord Region) × AllByRecursion (IsWord Variant) i.variants)). record {
      language =
          x.0.0;
      script = x.0.1;
      region = x.1.0;
      variants = x.1.1;
    })
    (λ (h : HasWords T i). ((h.language, h.script), (h.region, h.variants)))
    (search (tests_and, tests_word, tests_if_some, tests_all)))
    (tests_different word_cmp (map lower i.variants)))

pub tests_attributes : (ps : List Text) →
    Tests (list_all (is_word Attribute) ps) (AllByRecursion (IsWord Attribute) ps)
tests_attributes ps = search (tests_all, tests_word)

pub tests_keyword : (f : Field) → Tests (is_keyword f) (IsKeyword f)
tests_keyword f = tests_and (tests_word UnicodeKey f.0) (tests_attributes f.1)

pub tests_unicode : (u : SpelledUnicode) → Tests (is_unicode u) (IsUnicodeBlock u)
tests_unicode u = tests_like
    (grind arith)
    (λ (h : IsUnicodeBlock u). ((h.attributes, h.keywords), h.nonempty))
    (tests_and
    (tests_and (tests_attributes u.attributes) (tests_all is_keyword IsKeyword tests_keyword u.keywords))
    (tests_positive (length u.attributes + length u.keywords)))

pub tests_field : (f : Field) → Tests (is_field f) (IsField f)
tests_field f =
    tests_like (grind arith) (λ (x : IsField f). ((x.0, x.1), x.2))
    (tests_and (tests_and (tests_word TransformKey f.0) (tests_attributes f.1)) (tests_positive (length f.1)))

pub tests_needed : (o : Option SpelledIdentifier) (n : ℕ) → Tests (is_some o || nat_lt 0 n) (o ≡ None → 0 < n)
tests_needed None n = grind (arith, tests_like, tests_positive)
tests_needed (Some i) n = grind arith

pub tests_other : (ps : List Text) → Tests (is_other ps) (IsOther ps)
tests_other ps = tests_like
    (λ (x : AllByRecursion (λ p. is_in_range 2 8 (length p) ≡ true) ps × (0 < length (kept ps))).
    record { lengths = x.0; nonempty = x.1 })
    (λ (h : IsOther ps). (h.lengths, h.nonempty))
    (grind (arith, tests_and, tests_all, tests_positive))

pub tests_private : (ps : List Text) → Tests (is_private ps) (IsPrivate ps)
tests_private ps = tests_like
    (grind arith)
    (λ (h : IsPrivate ps). (h.words, h.nonempty))
    (tests_and (tests_all (is_word PrivateSubtag) (IsWord PrivateSubtag) (tests_word PrivateSubtag) ps)
    (tests_positive (length ps)))

pub tests_extension : (T : LanguageLengths) (c : ℕ) (e : Extension) →
    Tests (is_extension T c e) (IsExtension T c e)
tests_extension T c (unicode u) = tests_and (tests_nat c code_u) (tests_unicode u)
tests_extension T c (transform m) = tests_and (tests_nat c code_t)
    (tests_like (grind arith)
    (λ (h : IsTransformBlock T m). ((h.id, h.fields), h.nonempty))
    (tests_and (tests_and (tests_if_some (is_identifier T) (IsIdentifier T) (tests_identifier T) m.id)
    (tests_all is_field IsField tests_field m.fields)) (tests_needed m.id (length m.fields))))
tests_extension T c (other ps) = grind (arith, tests_and, tests_other)

-- pieces that were read follow the rule, or none that spell them do

pub identifier_read : {T : ℕ → Bool} {ps : List Text} → SpellsIdentifier T ps →
    IsIdentifier T (identifier_of ps)
identifier_read {T = T} s = grind (arith, identifier_of-pieces)

pub extension_read : (T : LanguageLengths) (c : ℕ) (ps : List Text) →
    (e : Extension) × IsExtension T c e × (ps ≡ extension_pieces e) → IsExtension T c (extension_of c ps)
extension_read T c ps h = grind (arith, extension_of-pieces)

pub tests_spelled : (T : LanguageLengths) (p : Text) (ps : List Text) →
    Tests (is_identifier T (identifier_of (p ∷ ps))) (SpellsIdentifier T (p ∷ ps))
tests_spelled T p ps = tests_like
    (search pieces-identifier_of)
    identifier_read
    (tests_identifier T (identifier_of (p ∷ ps)))

pub tests_either : {a b : Bool} {P Q : Type 0} → Tests a P → Tests b Q → Tests (a || b) (P ⊎ Q)
tests_either {a = a} {b = b} s t = grind arith

pub tests_block : (T : LanguageLengths) (b : Block) → Tests (is_block T b) (IsBlock T b)
tests_block T b =
    tests_either (tests_and (tests_nat (lower_singleton b) code_x) (tests_private b.1)) (tests_like
    (grind (arith, pieces-extension_of))
    (extension_read T (lower_singleton b) b.1)
    (search tests_extension))
