-- The tests of what a step does to the parts of a written locale, and to the whole.
use Rattle.std.proofs.Common.{arith, ◌≡◌, inl, inr, ℕ, ◌<◌, Bool, true, false, not, ◌&&◌, List, [], ◌∷◌, length, Option, Some, None, nat_lt, refl, sym, subst, true≢false}
use Rattle.std.specs.List.{AllZip, list_any}
use Rattle.std.proofs.lemmas.Bool.{and_parts, and_from, or_cases, or_left, or_right}
use Rattle.std.proofs.Math.Bool.{or-true}
use Rattle.iloc_spec_grammar.specs.Syntax.{Field, Text, Subtag, is_word, is_same, SpelledIdentifier, SpelledUnicode, Fields}
use Rattle.iloc_spec_grammar.specs.Tree.{Extension, unicode, transform, other, Written}
use Rattle.iloc_spec_grammar.specs.Values.{Reordered, WithoutRepeats}
use Rattle.iloc_spec_grammar.specs.TreeSteps.{TreeLessTrue, keys_differ, TreeRule, VariantOrder, AttributeOrder, FieldOrder, Repeats, Trues, DroppedPieces, TreeIdentifierStep, ExtensionStep, Step}
use Rattle.iloc_spec_grammar.proofs.RuleTests.{Tests, tests_and, tests_like, tests_different, tests_positive, tests_nat}
use Rattle.iloc_spec_grammar.proofs.Sorting.{itself}
use Rattle.iloc_spec_grammar.specs.StepTests.{all_zip, option_zip, block_zip, same_words, same_fields, same_identifier, same_extension, has_less_true, are_fields_reordered, are_fields_without_repeats, is_identifier_step, is_unicode_step, is_fields_step, is_other_step, is_change, is_extension_step, rules, is_block_order, is_step_by, is_step}
use Rattle.iloc_spec_grammar.proofs.Equality.{word_equality, words_equality, field_equality, fields_equality, FrontsEqual, fronts_equality, identifier_equality, optional_equality, extension_equality, block_equality, private_equality}
use Rattle.iloc_spec_grammar.proofs.ListTests.{tests_zip, tests_reordered, tests_without, tests_without_repeats}

-- fields

pub tests_less_true : (f g : Field) → Tests (has_less_true f g) (TreeLessTrue f g)
tests_less_true f g = search (tests_and, word_equality, tests_without)

abbrev KeepsValue : Field → Field → Type 0
KeepsValue f g = TreeLessTrue f g × (0 < length g.1)

tests_keeps_value : (fs gs : Fields) →
    Tests (all_zip (λ f g. has_less_true f g && nat_lt 0 (length g.1)) fs gs) (AllZip KeepsValue fs gs)
tests_keeps_value fs gs = search (tests_zip, tests_and, tests_less_true, tests_positive)

tests_fields_reordered : (fs gs : Fields) →
    Tests (are_fields_reordered fs gs) (keys_differ fs × Reordered fs gs)
tests_fields_reordered fs gs = search (tests_and, tests_different, tests_reordered, field_equality)

tests_fields_without_repeats : (fs gs : Fields) →
    Tests (are_fields_without_repeats fs gs) (WithoutRepeats (λ f. f.0) [] fs gs)
tests_fields_without_repeats fs gs = search (tests_without_repeats, field_equality)

-- identifiers

orders_variants : TreeRule → Bool
orders_variants VariantOrder = true
orders_variants _ = false

-- other rules leave an identifier as it is
unchanged : {r : TreeRule} {i j : SpelledIdentifier} → orders_variants r ≡ false → TreeIdentifierStep r i j →
    i ≡ j
unfolding orders_variants
unchanged h TreeIdentifierStep.same = refl
unchanged h (TreeIdentifierStep.variants p) = cc

variants_step : (i j : SpelledIdentifier) → FrontsEqual i j → Reordered i.variants j.variants →
    TreeIdentifierStep VariantOrder i j
variants_step i j f p = subst (TreeIdentifierStep VariantOrder i)
    (grind (arith))
    (TreeIdentifierStep.variants p)

step_variants : {i j : SpelledIdentifier} → TreeIdentifierStep VariantOrder i j →
    FrontsEqual i j × Reordered i.variants j.variants
step_variants {i = i} TreeIdentifierStep.same = ((refl, (refl, refl)), itself i.variants)
step_variants (TreeIdentifierStep.variants p) = search

pub tests_identifier_step : (r : TreeRule) (i j : SpelledIdentifier) →
    Tests (is_identifier_step r i j) (TreeIdentifierStep r i j)
unfolding orders_variants
tests_identifier_step VariantOrder i j = tests_like
    (λ (p : FrontsEqual i j × Reordered i.variants j.variants). variants_step i j p.0 p.1) step_variants
    (tests_and (fronts_equality i j) (tests_reordered is_same word_equality i.variants j.variants))
tests_identifier_step r i j = tests_like (λ (e : i ≡ j). subst
    (TreeIdentifierStep r i) e TreeIdentifierStep.same) (unchanged refl) (identifier_equality i j)

-- extensions

unicode_holds : (r : TreeRule) (u v : SpelledUnicode) → is_unicode_step r u v ≡ true →
    ExtensionStep r (unicode u) (unicode v)
unicode_holds AttributeOrder u v e =
    let parts = and_parts _ (same_fields u.keywords v.keywords) e in
    rw (← ((fields_equality u.keywords v.keywords).holds parts.1)) (ExtensionStep.attribute_order
    ((tests_reordered is_same word_equality u.attributes v.attributes).holds parts.0))
unicode_holds FieldOrder u v e =
    let parts = and_parts (same_words u.attributes v.attributes) _ e in
    let o = (tests_fields_reordered u.keywords v.keywords).holds parts.1 in
    rw (← ((words_equality u.attributes v.attributes).holds parts.0)) (ExtensionStep.keyword_order o.0 o.1)
unicode_holds Repeats u v e =
    let parts = and_parts _ (are_fields_without_repeats u.keywords v.keywords) e in
    ExtensionStep.unicode_repeats
    ((tests_without_repeats is_same word_equality (λ a. a) [] u.attributes v.attributes).holds parts.0)
    ((tests_fields_without_repeats u.keywords v.keywords).holds parts.1)
unicode_holds Trues u v e =
    let parts = and_parts (same_words u.attributes v.attributes) _ e in
    rw (← ((words_equality u.attributes v.attributes).holds parts.0)) (ExtensionStep.unicode_trues
    ((tests_zip has_less_true TreeLessTrue tests_less_true u.keywords v.keywords).holds parts.1))
unicode_holds _ u v e = cc

fields_holds : (r : TreeRule) (o : Option SpelledIdentifier) (fs gs : Fields) →
    is_fields_step r fs gs ≡ true →
    ExtensionStep r (transform (record { id = o; fields = fs })) (transform (record { id = o; fields = gs }))
fields_holds FieldOrder o fs gs e =
    let p = (tests_fields_reordered fs gs).holds e in ExtensionStep.field_order p.0 p.1
fields_holds Repeats o fs gs e =
    ExtensionStep.transform_repeats ((tests_fields_without_repeats fs gs).holds e)
fields_holds Trues o fs gs e = ExtensionStep.transform_trues ((tests_keeps_value fs gs).holds e)
fields_holds _ o fs gs e = cc

optional_holds : (r : TreeRule) (o p : Option SpelledIdentifier) (fs : Fields) →
    option_zip (is_identifier_step r) o p ≡ true →
    ExtensionStep r (transform (record { id = o; fields = fs })) (transform (record { id = p; fields = fs }))
optional_holds r None None fs e = ExtensionStep.same
optional_holds r (Some i) (Some j) fs e = ExtensionStep.identifier ((tests_identifier_step r i j).holds e)
optional_holds r _ _ fs e = absurd (true≢false (sym e))

other_holds : (r : TreeRule) (ps qs : List Text) → is_other_step r ps qs ≡ true →
    ExtensionStep r (other ps) (other qs)
other_holds DroppedPieces ps qs e = ExtensionStep.dropped_pieces
    ((tests_without is_same word_equality (λ p. not (is_word Subtag p)) ps qs).holds e)
other_holds _ ps qs e = cc

change_holds : (r : TreeRule) (e f : Extension) → is_change r e f ≡ true → ExtensionStep r e f
change_holds r (unicode u) (unicode v) h = unicode_holds r u v h
change_holds r (transform m) (transform n) h = elim (or_cases _ _ h) [
  | inl h ↦ let parts = and_parts
      (option_zip (is_identifier_step r) m.id n.id) _ h in subst
      (λ fs. ExtensionStep r (transform m) (transform (record { id = n.id; fields = fs })))
      ((fields_equality m.fields n.fields).holds parts.1) (optional_holds r m.id n.id m.fields parts.0)
  | inr
      h ↦ let parts = and_parts (option_zip same_identifier m.id n.id) _ h in subst
      (λ o. ExtensionStep r (transform m) (transform (record { id = o; fields = n.fields })))
      ((optional_equality m.id n.id).holds parts.0) (fields_holds r m.id m.fields n.fields parts.1)
]
change_holds r (other ps) (other qs) h = other_holds r ps qs h
change_holds r _ _ h = absurd (true≢false (sym h))

extension_holds : (r : TreeRule) (e f : Extension) → is_extension_step r e f ≡ true → ExtensionStep r e f
extension_holds r e f h = elim (or_cases _ _ h) [
  | inl s ↦ rw (← ((extension_equality e f).holds s)) ExtensionStep.same
  | inr c ↦ change_holds r e f c
]

extension_passes : {r : TreeRule} {e f : Extension} → ExtensionStep r e f → is_extension_step r e f ≡ true
extension_passes {e = e} ExtensionStep.same = or_left _ _ ((extension_equality e e).passes refl)
extension_passes (ExtensionStep.identifier {r = r} {i = i} {j = j} {fs = fs} s) = or_right _ _ (or_left _ _
    (and_from _ _ ((tests_identifier_step r i j).passes s) ((fields_equality fs fs).passes refl)))
extension_passes (ExtensionStep.attribute_order {vs = vs} {ws = ws} {fs = fs} o) = or_right _ _ (and_from _ _
    ((tests_reordered is_same word_equality vs ws).passes o) ((fields_equality fs fs).passes refl))
extension_passes (ExtensionStep.keyword_order {vs = vs} {fs = fs} {gs = gs} d o) = or_right _ _
    (and_from _ _ ((words_equality vs vs).passes refl) ((tests_fields_reordered fs gs).passes (d, o)))
extension_passes (ExtensionStep.field_order {i = i} {fs = fs} {gs = gs} d o) = or_right _ _ (or_right _ _
    (and_from _ _ ((optional_equality i i).passes refl) ((tests_fields_reordered fs gs).passes (d, o))))
extension_passes (ExtensionStep.unicode_repeats {vs = vs} {ws = ws} {fs = fs} {gs = gs} a s) =
    or_right _ _ (and_from _ _ ((tests_without_repeats is_same word_equality (λ a. a) [] vs ws).passes a)
    ((tests_fields_without_repeats fs gs).passes s))
extension_passes (ExtensionStep.transform_repeats {i = i} {fs = fs} {gs = gs} s) = or_right _ _ (or_right _ _
    (and_from _ _ ((optional_equality i i).passes refl) ((tests_fields_without_repeats fs gs).passes s)))
extension_passes (ExtensionStep.unicode_trues {vs = vs} {fs = fs} {gs = gs} z) =
    or_right _ _ (and_from _ _ ((words_equality vs vs).passes refl)
    ((tests_zip has_less_true TreeLessTrue tests_less_true fs gs).passes z))
extension_passes (ExtensionStep.transform_trues {i = i} {fs = fs} {gs = gs} z) = or_right _ _
    (or_right _ _ (and_from _ _ ((optional_equality i i).passes refl) ((tests_keeps_value fs gs).passes z)))
extension_passes (ExtensionStep.dropped_pieces {ps = ps} {qs = qs} w) =
    or_right _ _ ((tests_without is_same word_equality (λ p. not (is_word Subtag p)) ps qs).passes w)

pub tests_extension_step : (r : TreeRule) (e f : Extension) →
    Tests (is_extension_step r e f) (ExtensionStep r e f)
tests_extension_step r e f = search (extension_holds, extension_passes)

-- written locales

abbrev BlockStep : TreeRule → ℕ × Extension → ℕ × Extension → Type 0
BlockStep r e f = (e.0 ≡ f.0) × ExtensionStep r e.1 f.1

tests_block_steps : (r : TreeRule) (es fs : List (ℕ × Extension)) →
    Tests (all_zip (block_zip (is_extension_step r)) es fs) (AllZip (BlockStep r) es fs)
tests_block_steps r es fs = search (tests_zip, tests_and, tests_nat, tests_extension_step)

-- some rule passes the test, and any that does is among them
some_rule : {test : TreeRule → Bool} (rs : List TreeRule) → list_any test rs ≡ true →
    (r : TreeRule) × (test r ≡ true)
some_rule [] e = cc
some_rule {test = test} (r ∷ rs) e =
    elim (or_cases _ _ e) [ inl h ↦ (r, h) | inr h ↦ some_rule {test = test} rs h ]

among_rules : (test : TreeRule → Bool) (r : TreeRule) → test r ≡ true → list_any test rules ≡ true
among_rules test VariantOrder e = simp e
among_rules test _ e = simp (e, or-true)

step_holds : (v w : Written) → is_step v w ≡ true → Step v w
unfolding is_step
step_holds v w e =
    let parts = and_parts (option_zip (block_zip same_words) v.private w.private) _ e in
    subst (λ x. Step v (record { id = w.id; extensions = w.extensions; private = x }))
    ((private_equality v.private w.private).holds parts.0) (elim (or_cases _ _ parts.1) [
      | inl h ↦
          let parts = and_parts (same_identifier v.id w.id) _ h in
          rw (← ((identifier_equality v.id w.id).holds parts.0)) (Step.block_order ((tests_reordered
          (block_zip same_extension) block_equality v.extensions w.extensions).holds parts.1))
      | inr h ↦
          let some = some_rule {test = λ r. is_step_by r v w} rules h in
          let parts = and_parts (is_identifier_step some.0 v.id w.id) _ some.1 in
          Step.inside some.0 ((tests_identifier_step some.0 v.id w.id).holds parts.0)
          ((tests_block_steps some.0 v.extensions w.extensions).holds parts.1)
    ])

step_passes : {v w : Written} → Step v w → is_step v w ≡ true
unfolding is_step
step_passes {v = v} {w = w} (Step.block_order o) =
    and_from _ _ ((private_equality v.private v.private).passes refl)
    (or_left _ _ (and_from _ _ ((identifier_equality v.id v.id).passes refl)
    ((tests_reordered (block_zip same_extension) block_equality v.extensions w.extensions).passes o)))
step_passes {v = v} {w = w} (Step.inside r s z) =
    and_from _ _ ((private_equality v.private v.private).passes refl) (or_right (is_block_order v w) _
    (among_rules (λ r. is_step_by r v w) r (and_from _ _ ((tests_identifier_step r v.id w.id).passes s)
    ((tests_block_steps r v.extensions w.extensions).passes z))))

pub tests_step : (v w : Written) → Tests (is_step v w) (Step v w)
tests_step v w = search (step_holds, step_passes)
