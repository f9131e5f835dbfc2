-- The equality tests decide equality.
use Rattle.std.proofs.Common.{arith, ◌≡◌, ◌↔◌, Bool, false, ◌&&◌, ◌==◌, [], ◌∷◌, Some, None, ap, true≢false}
use Rattle.std.specs.Bool.{IsTrue}
use Rattle.iloc_spec_grammar.specs.Syntax.{is_same, SpelledIdentifier}
use Rattle.iloc_spec_grammar.specs.Tree.{unicode, transform, other}
use Rattle.iloc_spec_grammar.proofs.MapLaws.{same_is, same_itself}
use Rattle.iloc_spec_grammar.proofs.RuleTests.{Tests, tests_and, tests_like, tests_nat}
use Rattle.iloc_spec_grammar.specs.StepTests.{DecidesEquality, all_zip, option_zip, block_zip, same_words, same_field, same_fields, same_but_variants, same_identifier, same_extension}

pub iff_from_tests : {b : Bool} {P : Type 0} → Tests b P → IsTrue b ↔ P
iff_from_tests t = (t.holds, t.passes)

-- the test is true of equal items alone, and of all of them
abbrev pub Equality : {X : Type 0} → (X → X → Bool) → Type 0
Equality {X = X} same = (x y : X) → Tests (same x y) (x ≡ y)

pub decided_equality : {X : Type 0} (same : X → X → Bool) → DecidesEquality same → Equality same
decided_equality same d x y = record { holds = (d x y).0; passes = (d x y).1 }

pub word_equality : Equality is_same
word_equality v w = grind (arith, same_is, same_itself)

-- of what never holds
pub never : {P : Type 0} → ¬ P → Tests false P
never n = grind (arith, true≢false)

-- pairs, lists and options

pub pair_equality : {X Y : Type 0} (same : X → X → Bool) (alike : Y → Y → Bool) → Equality same →
    Equality alike → Equality {X = X × Y} (λ p q. same p.0 q.0 && alike p.1 q.1)
pair_equality same alike a b p q = grind (arith, tests_like, tests_and)

pub list_equality : {X : Type 0} (same : X → X → Bool) → Equality same → Equality (all_zip same)
list_equality same q [] [] = search
list_equality same q [] (y ∷ ys) = never (λ e. cc)
list_equality same q (x ∷ xs) [] = never (λ e. cc)
list_equality same q (x ∷ xs) (y ∷ ys) = grind (arith, tests_like, tests_and, list_equality same q xs ys)

pub option_equality : {X : Type 0} (same : X → X → Bool) → Equality same → Equality (option_zip same)
option_equality same q None None = search
option_equality same q None (Some y) = never (λ e. cc)
option_equality same q (Some x) None = never (λ e. cc)
option_equality same q (Some x) (Some y) = grind (arith, tests_like)

-- the parts of a written locale

pub words_equality : Equality same_words
words_equality = list_equality is_same word_equality

pub field_equality : Equality same_field
field_equality = pair_equality is_same same_words word_equality words_equality

pub fields_equality : Equality same_fields
fields_equality = list_equality same_field field_equality

optional_word : Equality (option_zip is_same)
optional_word = option_equality is_same word_equality

-- equal but for the variants
abbrev pub FrontsEqual : SpelledIdentifier → SpelledIdentifier → Type 0
FrontsEqual i j = (i.language ≡ j.language) × ((i.script ≡ j.script) × (i.region ≡ j.region))

pub fronts_equality : (i j : SpelledIdentifier) → Tests (same_but_variants i j) (FrontsEqual i j)
fronts_equality i j = search (tests_and, word_equality, optional_word)

pub identifier_equality : Equality same_identifier
identifier_equality i j = tests_like
    (grind arith)
    (grind arith)
    (tests_and (fronts_equality i j) (words_equality i.variants j.variants))

pub optional_equality : Equality (option_zip same_identifier)
optional_equality = option_equality same_identifier identifier_equality

pub extension_equality : Equality same_extension
extension_equality (unicode u) (unicode v) = tests_like
    (grind arith)
    (λ (e : unicode u ≡ unicode v). let k : u ≡ v = cc in (ap (λ u. u.attributes) k, ap (λ u. u.keywords) k))
    (tests_and (words_equality u.attributes v.attributes) (fields_equality u.keywords v.keywords))
extension_equality (transform m) (transform n) = tests_like
    (grind arith)
    (λ (e : transform m ≡ transform n). let k : m ≡ n = cc in (ap (λ m. m.id) k, ap (λ m. m.fields) k))
    (tests_and (optional_equality m.id n.id) (fields_equality m.fields n.fields))
extension_equality (other ps) (other qs) =
    tests_like (λ (e : ps ≡ qs). ap other e) (λ (e : other ps ≡ other qs). cc) (words_equality ps qs)
extension_equality _ _ = never (λ e. cc)

pub block_equality : Equality (block_zip same_extension)
block_equality = pair_equality ◌==◌ same_extension tests_nat extension_equality

pub private_equality : Equality (option_zip (block_zip same_words))
private_equality =
    option_equality (block_zip same_words) (pair_equality ◌==◌ same_words tests_nat words_equality)
