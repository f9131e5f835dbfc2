-- Worked examples, computed by the plain programs: texts, and steps between them.
use Rattle.std.proofs.Common.{◌≡◌, ◌∷◌, refl, codes, Result, Err, arith, None, Bool, true, false, true≢false, [], Ok, ℕ, sym, ap, ◌∙◌}
use Rattle.iloc_spec_grammar.specs.Syntax.{code_t, Text, pieces, join, is_word, lower, upper, title, is_true, languages, SpelledIdentifier, Identifier, is_same}
use Rattle.iloc_spec_grammar.specs.Tree.{transform, meaning}
use Rattle.iloc_spec_grammar.specs.Meaning.{Locale, Fault, Means}
use Rattle.iloc_spec_grammar.specs.Values.{TextStep, extensions_spelling, identifier_text, Without, Leads}
use Rattle.iloc_spec_grammar.specs.TreeSteps.{keys_differ, Trues, TreeIdentifierStep, ExtensionStep, Step, TreeTextStep}
use Rattle.iloc_spec_grammar.specs.Reading.{identifier_of, front_of, unicode_of, transform_of, written_of}
use Rattle.iloc_spec_grammar.specs.Computing.{locale_result, computed_text, identifier_result, identifier_text_of}
use Rattle.iloc_spec_grammar.specs.Examples.{Normalises, IsRefused, NormalisesIdentifier, IsRefusedIdentifier}
use Rattle.iloc_spec_grammar.proofs.RawLaws.{languages_table}
use Rattle.iloc_spec_grammar.proofs.SameSteps.{step_by_tree}
use Rattle.iloc_spec_grammar.proofs.ComputingLaws.{computed_means, computed_fault, computed_identifier, computed_identifier_fault}
use Rattle.iloc_spec_grammar.proofs.AnySteps.{chain_means}
use Rattle.iloc_spec_grammar.specs.StepTests.{is_text_step}
use Rattle.iloc_spec_grammar.proofs.TextTests.{tests_text_step}

-- Worked examples, computed by the plain program.

-- what the program answers, as a text
unfoldable pub answer : Text → Result Text Fault
unfolding locale_result extensions_spelling written_of unicode_of transform_of identifier_of front_of pieces
    join is_word lower upper title is_true languages
answer t = computed_text (locale_result languages t)

normalises_from : (t u : Text) (r : Result Locale Fault) → locale_result languages t ≡ r →
    computed_text r ≡ Ok u → Normalises t u
normalises_from t u (Ok M) e h =
    record { value = M; means = (computed_means languages languages_table t M).0 e; printed = cc }
normalises_from t u (Err f) e h = cc

refused_from : (t : Text) (f : Fault) (r : Result Locale Fault) → locale_result languages t ≡ r →
    computed_text r ≡ Err f → IsRefused t f
refused_from t f (Ok M) e h = cc
refused_from t f (Err g) e h = (computed_fault languages languages_table t f).0 cc

pub normalises : (t u : Text) → answer t ≡ Ok u → Normalises t u
unfolding answer
normalises t u h = search normalises_from

pub refused : (t : Text) (f : Fault) → answer t ≡ Err f → IsRefused t f
unfolding answer
refused t f h = search refused_from

-- identifiers

unfoldable pub identifier_answer : Text → Result Text Fault
unfolding identifier_text identifier_of pieces join is_word lower upper title languages
identifier_answer t = identifier_text_of (identifier_result languages (pieces t))

identifier_from : (t u : Text) (r : Result Identifier Fault) → identifier_result languages (pieces t) ≡ r →
    identifier_text_of r ≡ Ok u → NormalisesIdentifier t u
identifier_from t u (Ok i) e h = grind (arith, computed_identifier)
identifier_from t u (Err f) e h = cc

no_identifier_from : (t : Text) (f : Fault) (r : Result Identifier Fault) →
    identifier_result languages (pieces t) ≡ r → identifier_text_of r ≡ Err f → IsRefusedIdentifier t f
no_identifier_from t f (Ok i) e h = cc
no_identifier_from t f (Err g) e h = (computed_identifier_fault languages t f).0 cc

pub normalises_identifier : (t u : Text) → identifier_answer t ≡ Ok u → NormalisesIdentifier t u
unfolding identifier_answer
normalises_identifier t u h = search identifier_from

pub refused_identifier : (t : Text) (f : Fault) → identifier_answer t ≡ Err f → IsRefusedIdentifier t f
unfolding identifier_answer
refused_identifier t f h = search no_identifier_from

-- the two settled readings of the steps

abbrev und : SpelledIdentifier
und = record { language = codes "und"; script = None; region = None; variants = [] }

pub same_key_in_two_cases : keys_differ
    ((codes "ca", codes "foo" ∷ []) ∷ (codes "CA", codes "bar" ∷ []) ∷ []) → ⊥
unfolding lower
same_key_in_two_cases d = d.0 refl

one_true_of_tree : TreeTextStep languages (codes "und-t-m0-true-true") (codes "und-t-m0-true")
unfolding pieces join is_word lower is_true languages
one_true_of_tree = TreeTextStep.rewritten
    {v = record {
      id = und;
      extensions = (
        code_t,
        transform (record { id = None; fields = (codes "m0", codes "true" ∷ codes "true" ∷ []) ∷ [] }),
      )
          ∷ [];
      private = None;
    }}
    {w = record {
      id = und;
      extensions =
          (code_t, transform (record { id = None; fields = (codes "m0", codes "true" ∷ []) ∷ [] })) ∷ [];
      private = None;
    }}
    (grind arith)
    refl
    (Step.inside Trues TreeIdentifierStep.same (
      (
        refl,
        ExtensionStep.transform_trues
            (((refl, Without.stays (Without.left_out refl Without.none)), omega arith), tt),
      ),
      tt,
    ))

pub one_true_stays : TextStep languages (codes "und-t-m0-true-true") (codes "und-t-m0-true")
one_true_stays = step_by_tree languages_table _ _ one_true_of_tree

-- Worked steps, by computing the test of each, and two texts that no step joins.

pub step_by_test : (t u : Text) → is_text_step languages t u ≡ true → TextStep languages t u
step_by_test t u e = (tests_text_step languages languages_table t u).holds e

-- a chain leads to no text whose meaning has another text

apart : (n : ℕ) (t u : Text) (M : Locale) → Means languages t M →
    (computed_text (locale_result languages t) ≡ computed_text (locale_result languages u) → ⊥) →
    Leads (TextStep languages) n t u → ⊥
apart n t u M m d c = d (ap computed_text ((computed_means languages languages_table t M).1 m
    ∙ sym
    ((computed_means languages languages_table u M).1 (chain_means languages languages_table n t u M c m))))

is_text : Text → Result Text Fault → Bool
is_text t (Ok u) = is_same t u
is_text t (Err f) = false

pub same_key_stays_in_order : (n : ℕ) →
    Leads (TextStep languages) n (codes "en-u-ca-foo-CA-bar") (codes "en-u-CA-bar-ca-foo") → ⊥
unfolding is_text locale_result extensions_spelling written_of unicode_of transform_of identifier_of front_of
    pieces join is_word lower upper title is_true languages
same_key_stays_in_order n c = apart n (codes "en-u-ca-foo-CA-bar") (codes "en-u-CA-bar-ca-foo")
    (meaning (written_of (pieces (codes "en-u-ca-foo-CA-bar"))))
    ((computed_means languages languages_table (codes "en-u-ca-foo-CA-bar")
    (meaning (written_of (pieces (codes "en-u-ca-foo-CA-bar"))))).0 refl)
    (λ e. true≢false (ap (is_text (codes "en-u-ca-foo")) e))
    c
