-- The tests of the steps between texts.
use Rattle.std.proofs.Common.{◌≡◌, inl, inr, true, Result, Ok, Err, refl, sym, ap, ap₂, ◌∙◌, subst, true≢false}
use Rattle.std.specs.Result.{is_ok}
use Rattle.std.proofs.lemmas.Bool.{and_parts, and_from, or_cases, or_left, or_right}
use Rattle.iloc_spec_grammar.specs.Syntax.{LanguageLengths, Text, pieces, join, AreLengths, lower, IsIdentifier, identifier_pieces}
use Rattle.iloc_spec_grammar.specs.Tree.{IsWritten, spelling, meaning}
use Rattle.iloc_spec_grammar.specs.Meaning.{normal_identifier, Fault}
use Rattle.iloc_spec_grammar.specs.Values.{TextStep, IdentifierTextStep}
use Rattle.iloc_spec_grammar.specs.TreeSteps.{VariantOrder, TreeTextStep, TreeIdentifierTextStep}
use Rattle.iloc_spec_grammar.specs.Reading.{identifier_of, written_of}
use Rattle.iloc_spec_grammar.specs.Computing.{identifier_result, locale_result}
use Rattle.iloc_spec_grammar.proofs.PiecesLaws.{join-pieces, at_pieces}
use Rattle.iloc_spec_grammar.proofs.IdentifierLaws.{pieces-identifier_of, identifier_of-pieces}
use Rattle.iloc_spec_grammar.proofs.IdentifierTexts.{pieces-identifier_text}
use Rattle.iloc_spec_grammar.proofs.Readings.{written_of-spelling}
use Rattle.iloc_spec_grammar.proofs.RuleTests.{Tests}
use Rattle.iloc_spec_grammar.proofs.ComputingLaws.{computed_tree, computed_identifier}
use Rattle.iloc_spec_grammar.proofs.CaseLaws.{spelling-written_of}
use Rattle.iloc_spec_grammar.proofs.StepLaws.{identifier_step, written_step}
use Rattle.iloc_spec_grammar.proofs.StepSizes.{step_pieces}
use Rattle.iloc_spec_grammar.proofs.SameSteps.{tree_step, step_by_tree, tree_identifier_step, identifier_step_by_tree}
use Rattle.iloc_spec_grammar.specs.StepTests.{is_identifier_step, is_step, is_text_step, is_identifier_text_step}
use Rattle.iloc_spec_grammar.proofs.Equality.{word_equality}
use Rattle.iloc_spec_grammar.proofs.PartTests.{tests_identifier_step, tests_step}

ok_value : {X : Type 0} (r : Result X Fault) → is_ok r ≡ true → (x : X) × (r ≡ Ok x)
ok_value (Ok x) e = (x, refl)
ok_value (Err f) e = absurd (true≢false (sym e))

-- whole texts

-- what is read of a text spells it
read_spelling : (t : Text) → spelling (written_of (pieces t)) ≡ pieces t
read_spelling t = at_pieces (λ ps. spelling (written_of ps) ≡ ps) spelling-written_of t

read_text : (t : Text) → join (spelling (written_of (pieces t))) ≡ t
read_text t = ap join (read_spelling t) ∙ join-pieces t

-- of an accepted text it follows the rules
read_written : (T : LanguageLengths) → AreLengths T → (t : Text) → is_ok (locale_result T t) ≡ true →
    IsWritten T (written_of (pieces t))
read_written T table t e =
    let value = ok_value (locale_result T t) e in
    let m = (computed_tree T table t value.0).0 value.1 in
    subst (IsWritten T) (sym (ap written_of m.spelled ∙ written_of-spelling table m.written m.grammatical))
    m.grammatical

text_holds : (T : LanguageLengths) → AreLengths T → (t u : Text) → is_text_step T t u ≡ true →
    TreeTextStep T t u
unfolding is_text_step
text_holds T table t u e = elim (or_cases _ _ e) [
  | inl h ↦ TreeTextStep.letter_case ((word_equality (lower t) (lower u)).holds h)
  | inr h ↦
      let parts = and_parts (is_ok (locale_result T t)) _ h in
      subst (TreeTextStep T t) (read_text u) (TreeTextStep.rewritten (read_written T table t parts.0)
      (sym (read_spelling t)) ((tests_step (written_of (pieces t)) (written_of (pieces u))).holds parts.1))
]

text_passes : (T : LanguageLengths) → AreLengths T → {t u : Text} → TreeTextStep T t u →
    is_text_step T t u ≡ true
unfolding is_text_step
text_passes T table {t = t} {u = u} (TreeTextStep.letter_case e) =
    or_left _ _ ((word_equality (lower t) (lower u)).passes e)
text_passes T table {t = t} (TreeTextStep.rewritten {v = v} {w = w} g p s) =
    let accepted : locale_result T t ≡ Ok (meaning v) = (computed_tree T table t (meaning v)).1
    (record { written = v; grammatical = g; spelled = p; means = refl }) in
    let first : written_of (pieces t) ≡ v = ap written_of p ∙ written_of-spelling table v g in
    let second : written_of (pieces (join (spelling w))) ≡ w =
    ap written_of (step_pieces t p s) ∙ written_of-spelling table w (written_step T s g).0 in
    or_right _ _ (and_from _ _ (ap is_ok accepted) (ap₂ is_step first second ∙ (tests_step v w).passes s))

pub tests_text_step : (T : LanguageLengths) → AreLengths T → (t u : Text) →
    Tests (is_text_step T t u) (TextStep T t u)
tests_text_step T table t u = search (step_by_tree, text_holds, text_passes, tree_step)

-- texts of identifiers

read_identifier_spelling : (t : Text) → identifier_pieces (identifier_of (pieces t)) ≡ pieces t
read_identifier_spelling t =
    at_pieces (λ ps. identifier_pieces (identifier_of ps) ≡ ps) pieces-identifier_of t

read_identifier_text : (t : Text) → join (identifier_pieces (identifier_of (pieces t))) ≡ t
read_identifier_text t = ap join (read_identifier_spelling t) ∙ join-pieces t

read_identifier : (T : LanguageLengths) (t : Text) → is_ok (identifier_result T (pieces t)) ≡ true →
    IsIdentifier T (identifier_of (pieces t))
read_identifier T t e =
    let value = ok_value (identifier_result T (pieces t)) e in
    let m = (computed_identifier T t value.0).0 value.1 in
    subst (IsIdentifier T)
    (sym (ap identifier_of m.spelled ∙ identifier_of-pieces m.written m.grammatical.words)) m.grammatical

identifier_text_holds : (T : LanguageLengths) (t u : Text) → is_identifier_text_step T t u ≡ true →
    TreeIdentifierTextStep T t u
unfolding is_identifier_text_step
identifier_text_holds T t u e = elim (or_cases _ _ e) [
  | inl h ↦ TreeIdentifierTextStep.letter_case ((word_equality (lower t) (lower u)).holds h)
  | inr h ↦
      let parts = and_parts (is_ok (identifier_result T (pieces t))) _ h in
      subst (TreeIdentifierTextStep T t) (read_identifier_text u) (TreeIdentifierTextStep.variant_order
      (read_identifier T t parts.0) (sym (read_identifier_spelling t)) ((tests_identifier_step VariantOrder
      (identifier_of (pieces t)) (identifier_of (pieces u))).holds parts.1))
]

identifier_text_passes : (T : LanguageLengths) {t u : Text} → TreeIdentifierTextStep T t u →
    is_identifier_text_step T t u ≡ true
unfolding is_identifier_text_step
identifier_text_passes T {t = t} {u = u} (TreeIdentifierTextStep.letter_case e) =
    or_left _ _ ((word_equality (lower t) (lower u)).passes e)
identifier_text_passes T {t = t} (TreeIdentifierTextStep.variant_order {i = i} {j = j} g p s) =
    let accepted : identifier_result T (pieces t) ≡ Ok (normal_identifier i) = (computed_identifier T t
    (normal_identifier i)).1 (record { written = i; grammatical = g; spelled = p; means = refl }) in
    let after : IsIdentifier T j = (identifier_step s g).0 in
    let first : identifier_of (pieces t) ≡ i = ap identifier_of p ∙ identifier_of-pieces i g.words in
    let second : identifier_of (pieces (join (identifier_pieces j))) ≡ j =
    ap identifier_of (pieces-identifier_text j after.words) ∙ identifier_of-pieces j after.words in
    or_right _ _ (and_from _ _ (ap is_ok accepted)
    (ap₂ (is_identifier_step VariantOrder) first second ∙ (tests_identifier_step VariantOrder i j).passes s))

pub tests_identifier_text_step : (T : LanguageLengths) (t u : Text) →
    Tests (is_identifier_text_step T t u) (IdentifierTextStep T t u)
tests_identifier_text_step T t u =
    search (identifier_step_by_tree, identifier_text_holds, identifier_text_passes, tree_identifier_step)
