-- What follows a singleton, one piece more: what the rules of the grammar ask of the rest.
use Rattle.std.proofs.Common.{◌≡◌, ℕ, suc, ◌+◌, Bool, true, false, cond, ◌&&◌, ◌||◌, List, [], ◌∷◌, length, nat_lt, refl, ap₂, arith}
use Rattle.std.specs.List.{list_all}
use Rattle.std.specs.Int.{is_in_range}
use Rattle.std.proofs.lemmas.Bool.{cases_Bool, false_from_ne_true, lt-ltb}
use Rattle.iloc_spec_grammar.specs.Syntax.{Text, Fields, Language, UnicodeKey, TransformKey, Attribute, Subtag, languages, is_word, IsWord}
use Rattle.iloc_spec_grammar.specs.Reading.{take_first, is_two, before_key, fields_from, identifier_of, front_of, unicode_of, transform_of}
use Rattle.iloc_spec_grammar.specs.Computing.{holds_if_some, is_identifier, is_keyword, is_unicode, is_field, is_transform, is_other, repeats_variant}
use Rattle.iloc_spec_grammar.proofs.WordsLaws.{length-attribute, length-unicode_key, length-transform_key}
use Rattle.iloc_faults.proofs.Words.{good, repeats}
use Rattle.iloc_spec_grammar.proofs.Readings.{language_no_key}
use Rattle.iloc_faults.specs.declared.state.Stage.{Stage}
use Rattle.iloc_faults.specs.declared.state.Stage.TheVariants as stages
use Rattle.iloc_pieces.proofs.RunWords.{and-true}
use Rattle.iloc_spec_parts.proofs.BrokenBlocks.{two_no_attribute}

pub or_false : (a : Bool) → (a || false) ≡ a
or_false true = refl
or_false false = refl

pub and_assoc : (a b c : Bool) → ((a && b) && c) ≡ (a && (b && c))
and_assoc true b c = refl
and_assoc false b c = refl

-- one item more is some
pub one_is_some : (n : ℕ) → nat_lt 0 (suc n) ≡ true
one_is_some n = lt-ltb 0 (suc n) (omega arith)

-- ---- after `u`

-- whether the piece may stand after `u`
abbrev pub of_unicode : Text → Bool
of_unicode p = is_word Attribute p || is_word UnicodeKey p

more_no_key : (p : Text) → is_two p ≡ false → is_word UnicodeKey p ≡ false
more_no_key p h = grind (arith, length-unicode_key)

unicode_all : (ps : List Text) →
    (list_all (is_word Attribute) (before_key is_two ps) && list_all is_keyword (fields_from is_two ps))
    ≡ list_all of_unicode ps
unicode_all [] = refl
unicode_all (p ∷ ps) =
    grind (arith, cases_Bool, two_no_attribute, and_assoc, more_no_key, or_false, unicode_all ps)

unicode_some : (ps : List Text) →
    nat_lt 0 (length (before_key is_two ps) + length (fields_from is_two ps)) ≡ nat_lt 0 (length ps)
unicode_some [] = refl
unicode_some (p ∷ ps) = grind (arith, cases_Bool, lt-ltb)

pub unicode_is : (ps : List Text) →
    is_unicode (unicode_of ps) ≡ (list_all of_unicode ps && nat_lt 0 (length ps))
unfolding unicode_of
unicode_is ps = ap₂ ◌&&◌ (unicode_all ps) (unicode_some ps)

-- ---- after another singleton

abbrev pub has_length : Text → Bool
has_length p = is_in_range 2 8 (length p)

pub other_is : (p : Text) (ps : List Text) →
    is_other (p ∷ ps) ≡ (has_length p && cond (is_word Subtag p) (list_all has_length ps) (is_other ps))
other_is p ps = grind arith

-- ---- after `t`

-- the values before the next key, and the fields from it on
abbrev pub values : List Text → List Text
values ps = before_key (is_word TransformKey) ps

abbrev pub fields : List Text → Fields
fields ps = fields_from (is_word TransformKey) ps

-- whether the pieces go on with values and fields, after a value and after a key
abbrev pub after_value : List Text → Bool
after_value ps = list_all (is_word Attribute) (values ps) && list_all is_field (fields ps)

abbrev pub after_key : List Text → Bool
after_key ps = (list_all (is_word Attribute) (values ps) && nat_lt 0 (length (values ps)))
    && list_all is_field (fields ps)

pub key_no_attribute : (p : Text) → IsWord TransformKey p → is_word Attribute p ≡ false
key_no_attribute p h = false_from_ne_true _
    (λ e. let k = length-attribute p e in let n = length-transform_key p h in absurd (omega arith))

-- a field after its key
pub field_is : (p : Text) (ps : List Text) → is_word TransformKey p ≡ true →
    (is_field (p, values ps) && list_all is_field (fields ps)) ≡ after_key ps
field_is p ps e = rw e refl

pub after_value_is : (p : Text) (ps : List Text) →
    after_value (p ∷ ps)
    ≡ cond (is_word TransformKey p) (after_key ps) (is_word Attribute p && after_value ps)
after_value_is p ps = grind arith

pub after_key_is : (p : Text) (ps : List Text) → after_key (p ∷ ps) ≡ (is_word Attribute p && after_value ps)
after_key_is p ps = grind (arith, key_no_attribute, one_is_some)

-- what is first is of its kind
first_holds : (test : Text → Bool) (ps : List Text) → holds_if_some test (take_first test ps) ≡ true
first_holds test ps = grind arith

-- all pieces are an identifier
pub identifier_is : (p : Text) (ps : List Text) →
    is_identifier languages (identifier_of (p ∷ ps))
    ≡ (is_word (Language languages) p && good stages.Language [] ps)
unfolding identifier_of
identifier_is p ps = grind (arith, first_holds, and-true, and_assoc)

-- whether the pieces go on with words of the identifier, and then with fields
abbrev pub after_word : Stage → List Text → List Text → Bool
after_word stage vs ps = good stage vs (values ps) && list_all is_field (fields ps)

-- a key is no language
pub key_no_language : (p : Text) → IsWord TransformKey p → is_word (Language languages) p ≡ false
key_no_language p h = grind (arith, language_no_key)

pub repeats_none : repeats_variant languages [] ≡ false
unfolding is_word languages
repeats_none = refl

-- a key follows it, or something else
pub transform_is : (p : Text) (ps : List Text) →
    is_transform languages (transform_of (p ∷ ps))
    ≡ cond (is_word TransformKey p) (after_key ps)
    (is_word (Language languages) p && after_word stages.Language [] ps)
unfolding transform_of
transform_is p ps = grind (arith, one_is_some, field_is, identifier_is)

pub repeats_is : (p : Text) (ps : List Text) →
    repeats_variant languages (p ∷ ps) ≡ (is_word (Language languages) p && repeats stages.Language [] ps)
unfolding front_of
repeats_is p ps = refl
