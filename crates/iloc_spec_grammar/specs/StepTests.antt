-- Plain programs for the steps of rewriting: whether a step leads from one list, part or text to
-- another. The laws of this crate say that each is true exactly if the relation of that name
-- holds, so one can compute it.
use Rattle.std.specs.Prelude.{◌≡◌, ◌↔◌, IsTrue, ℕ, Bool, true, false, not, ◌&&◌, ◌||◌, ◌==◌, List, [], ◌∷◌}
use Rattle.std.specs.Prelude.{length, map, Option, Some, None, nat_lt, if◌then◌else◌}
use Rattle.std.specs.List.{list_any}
use Rattle.std.specs.Result.{is_ok}
use Rattle.iloc_spec_grammar.specs.Syntax.{Text, LanguageLengths, Field, pieces, Subtag, is_word, lower}
use Rattle.iloc_spec_grammar.specs.Syntax.{is_same, is_true, word_cmp, SpelledIdentifier, SpelledUnicode}
use Rattle.iloc_spec_grammar.specs.Syntax.{SpelledTransform, Fields}
use Rattle.iloc_spec_grammar.specs.Tree.{Extension, unicode, transform, other, Written}
use Rattle.iloc_spec_grammar.specs.Reading.{identifier_of, written_of}
use Rattle.iloc_spec_grammar.specs.Computing.{all_different, identifier_result, locale_result}
use Rattle.iloc_spec_grammar.specs.TreeSteps.{TreeRule, VariantOrder, AttributeOrder, FieldOrder, Repeats}
use Rattle.iloc_spec_grammar.specs.TreeSteps.{Trues, DroppedPieces}

-- What a step does to a list. Each of these takes a test `same` of whether two items are equal.

-- the test is true of equal items alone, and of all of them
abbrev pub DecidesEquality : {X : Type 0} → (X → X → Bool) → Type 0
DecidesEquality {X = X} same = (x y : X) → IsTrue (same x y) ↔ (x ≡ y)

-- the list without the first item that is equal to x
abbrev pub take_out : {X : Type 0} → (X → X → Bool) → X → List X → List X
take_out same x [] = []
take_out same x (y ∷ ys) = if same x y then ys else y ∷ take_out same x ys

-- the items of the first list can be taken out of the second, one by one, and nothing is left
abbrev pub is_reordered : {X : Type 0} → (X → X → Bool) → List X → List X → Bool
is_reordered same [] [] = true
is_reordered same [] (y ∷ ys) = false
is_reordered same (x ∷ xs) ys = list_any (same x) ys && is_reordered same xs (take_out same x ys)

-- each item of the first list is the next one of the second, or passes the test and is left out
abbrev pub is_without : {X : Type 0} → (X → X → Bool) → (X → Bool) → List X → List X → Bool
is_without same test [] [] = true
is_without same test [] (y ∷ ys) = false
is_without same test (x ∷ xs) [] = test x && is_without same test xs []
is_without same test (x ∷ xs) (y ∷ ys) = (same x y && is_without same test xs ys)
    || (test x && is_without same test xs (y ∷ ys))

-- the key of the item, in lower case, is among those seen
abbrev pub was_seen : {X : Type 0} → (X → Text) → List Text → X → Bool
was_seen key seen x = list_any (is_same (lower (key x))) seen

-- each item of the first list is the next one of the second, and from then on its key was seen;
-- or its key was seen before, and it is left out
abbrev pub is_without_repeats : {X : Type 0} → (X → X → Bool) → (X → Text) → List Text → List X
    → List X → Bool
is_without_repeats same key seen [] [] = true
is_without_repeats same key seen [] (y ∷ ys) = false
is_without_repeats same key seen (x ∷ xs) [] = was_seen key seen x
    && is_without_repeats same key seen xs []
is_without_repeats same key seen (x ∷ xs) (y ∷ ys) = (same x y
    && is_without_repeats same key (lower (key x) ∷ seen) xs ys)
    || (was_seen key seen x && is_without_repeats same key seen xs (y ∷ ys))

-- Tests of pairs, place by place.

-- the lists are as long as each other, and the items at each place pass the test
abbrev pub all_zip : {X : Type 0} → (X → X → Bool) → List X → List X → Bool
all_zip test [] [] = true
all_zip test [] (y ∷ ys) = false
all_zip test (x ∷ xs) [] = false
all_zip test (x ∷ xs) (y ∷ ys) = test x y && all_zip test xs ys

-- both are absent, or both are there and pass the test
abbrev pub option_zip : {X : Type 0} → (X → X → Bool) → Option X → Option X → Bool
option_zip test None None = true
option_zip test None (Some y) = false
option_zip test (Some x) None = false
option_zip test (Some x) (Some y) = test x y

-- the singletons are equal, and what follows them passes the test
abbrev pub block_zip : {X : Type 0} → (X → X → Bool) → ℕ × X → ℕ × X → Bool
block_zip test (c, x) (d, y) = (c == d) && test x y

-- Equality of parts.

abbrev pub same_words : List Text → List Text → Bool
same_words vs ws = all_zip is_same vs ws

abbrev pub same_field : Field → Field → Bool
same_field (k, vs) (l, ws) = is_same k l && same_words vs ws

abbrev pub same_fields : Fields → Fields → Bool
same_fields fs gs = all_zip same_field fs gs

-- equal but for the variants
abbrev pub same_but_variants : SpelledIdentifier → SpelledIdentifier → Bool
same_but_variants i j = is_same i.language j.language
    && (option_zip is_same i.script j.script && option_zip is_same i.region j.region)

abbrev pub same_identifier : SpelledIdentifier → SpelledIdentifier → Bool
same_identifier i j = same_but_variants i j && same_words i.variants j.variants

abbrev pub same_extension : Extension → Extension → Bool
same_extension (unicode u) (unicode v) = same_words u.attributes v.attributes
    && same_fields u.keywords v.keywords
same_extension (transform m) (transform n) = option_zip same_identifier m.id n.id
    && same_fields m.fields n.fields
same_extension (other ps) (other qs) = same_words ps qs
same_extension _ _ = false

-- The steps.

-- some values that are `true` are left out
abbrev pub has_less_true : Field → Field → Bool
has_less_true (k, vs) (l, ws) = is_same k l && is_without is_same (λ p. is_true (lower p)) vs ws

-- the fields in another order, if all keys differ
abbrev pub are_fields_reordered : Fields → Fields → Bool
are_fields_reordered fs gs = all_different word_cmp (map (λ (key, _). lower key) fs)
    && is_reordered same_field fs gs

-- some fields are left out, each with the key of one that is kept before it
abbrev pub are_fields_without_repeats : Fields → Fields → Bool
are_fields_without_repeats fs gs = is_without_repeats same_field (λ (key, _). key) [] fs gs

-- one rule orders the variants, and the others leave an identifier as it is
abbrev pub is_identifier_step : TreeRule → SpelledIdentifier → SpelledIdentifier → Bool
is_identifier_step VariantOrder i j = same_but_variants i j
    && is_reordered is_same i.variants j.variants
is_identifier_step _ i j = same_identifier i j

-- what the rules do after `u`
abbrev pub is_unicode_step : TreeRule → SpelledUnicode → SpelledUnicode → Bool
is_unicode_step AttributeOrder u v = is_reordered is_same u.attributes v.attributes
    && same_fields u.keywords v.keywords
is_unicode_step FieldOrder u v = same_words u.attributes v.attributes
    && are_fields_reordered u.keywords v.keywords
is_unicode_step Repeats u v = is_without_repeats is_same (λ a. a) [] u.attributes v.attributes
    && are_fields_without_repeats u.keywords v.keywords
is_unicode_step Trues u v = same_words u.attributes v.attributes
    && all_zip has_less_true u.keywords v.keywords
is_unicode_step _ u v = false

-- what they do to the fields after `t`
abbrev pub is_fields_step : TreeRule → Fields → Fields → Bool
is_fields_step FieldOrder fs gs = are_fields_reordered fs gs
is_fields_step Repeats fs gs = are_fields_without_repeats fs gs
is_fields_step Trues fs gs = all_zip (λ f g. has_less_true f g && nat_lt 0 (length g.1)) fs gs
is_fields_step _ fs gs = false

-- after `t`, a step is one of the identifier or one of the fields
abbrev pub is_transform_step : TreeRule → SpelledTransform → SpelledTransform → Bool
is_transform_step r m n =
    (option_zip (is_identifier_step r) m.id n.id && same_fields m.fields n.fields)
    || (option_zip same_identifier m.id n.id && is_fields_step r m.fields n.fields)

-- what they do to other extensions
abbrev pub is_other_step : TreeRule → List Text → List Text → Bool
is_other_step DroppedPieces ps qs = is_without is_same (λ p. not (is_word Subtag p)) ps qs
is_other_step _ ps qs = false

-- a rule changes the first into the second
abbrev pub is_change : TreeRule → Extension → Extension → Bool
is_change r (unicode u) (unicode v) = is_unicode_step r u v
is_change r (transform m) (transform n) = is_transform_step r m n
is_change r (other ps) (other qs) = is_other_step r ps qs
is_change r _ _ = false

-- or leaves it as it is
abbrev pub is_extension_step : TreeRule → Extension → Extension → Bool
is_extension_step r e f = same_extension e f || is_change r e f

-- all six
abbrev pub rules : List TreeRule
rules = VariantOrder ∷ AttributeOrder ∷ FieldOrder ∷ Repeats ∷ Trues ∷ DroppedPieces ∷ []

-- the blocks in another order
abbrev pub is_block_order : Written → Written → Bool
is_block_order v w = same_identifier v.id w.id
    && is_reordered (block_zip same_extension) v.extensions w.extensions

-- one rule in all parts
abbrev pub is_step_by : TreeRule → Written → Written → Bool
is_step_by r v w = is_identifier_step r v.id w.id
    && all_zip (block_zip (is_extension_step r)) v.extensions w.extensions

-- a step of a written locale, which keeps the private part: the blocks in another order, or one of
-- the rules
unfoldable pub is_step : Written → Written → Bool
is_step v w = option_zip (block_zip same_words) v.private w.private
    && (is_block_order v w || list_any (λ r. is_step_by r v w) rules)

-- Texts.

-- the texts are equal without case; or the first is accepted, and a step leads from what it spells
-- to what the second spells, which then is accepted too
unfoldable pub is_text_step : LanguageLengths → Text → Text → Bool
is_text_step T t u = is_same (lower t) (lower u)
    || (is_ok (locale_result T t) && is_step (written_of (pieces t)) (written_of (pieces u)))

-- the same for the text of an identifier
unfoldable pub is_identifier_text_step : LanguageLengths → Text → Text → Bool
is_identifier_text_step T t u =
    is_same (lower t) (lower u)
    || (is_ok (identifier_result T (pieces t))
    && is_identifier_step VariantOrder (identifier_of (pieces t)) (identifier_of (pieces u)))
