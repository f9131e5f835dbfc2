-- Steps lead from each text of a meaning to the printed one.
use Rattle.std.proofs.Common.{◌≡◌, ℕ, ◌<◌, Bool, true, false, cond, not, List, [], ◌∷◌, length, map, filter, refl, ap, ◌∙◌, arith, Option, Some, None, IfSome, option_map}
use Rattle.std.specs.Prelude.{codes}
use Rattle.std.specs.List.{AllByRecursion, AllZip}
use Rattle.iloc_spec_grammar.specs.Syntax.{LanguageLengths, Field, Text, Subtag, is_word, lower, word_cmp, is_true, SpelledIdentifier, Fields, kept, IsIdentifier, IsField, AllDifferent}
use Rattle.iloc_spec_grammar.specs.Tree.{Extension, unicode, transform, other, IsExtension, spelled_transform, spelled_unicode}
use Rattle.iloc_spec_grammar.specs.Meaning.{set_of, normal_identifier, normal_values, normal_fields, normal_unicode, normal_transform}
use Rattle.iloc_spec_grammar.specs.Values.{lower_identifier, spelled_value, spelled_fields, Without}
use Rattle.iloc_spec_grammar.specs.TreeSteps.{TreeLessTrue, keys_differ, Repeats, Trues, DroppedPieces, VariantOrder, AttributeOrder, FieldOrder, TreeIdentifierStep, ExtensionStep}
use Rattle.iloc_spec_grammar.proofs.WordsLaws.{lower-lower, lower-title, lower-upper}
use Rattle.iloc_spec_grammar.proofs.MapLaws.{map_of_sorted, word_cmp_total, same_words}
use Rattle.iloc_spec_grammar.proofs.ValuesLaws.{set_of_ascending, lower_twice, same_identifier, filter_all, all_weaker, ascend_as_keys}
use Rattle.iloc_spec_grammar.proofs.Orders.{all_reordered, all_repeats}
use Rattle.iloc_spec_grammar.proofs.CaseLaws.{low, low_fields, low_extension}
use Rattle.iloc_spec_grammar.proofs.Sorting.{sort, reordered-sort, sorted-sort, dedup, without-dedup, different-dedup, without-filter, filter-passes}
use Rattle.std.specs.Cmp.{Equal-is}
use Rattle.iloc_spec_grammar.proofs.General.{option_map-then, zip_map, all_of, all_mapped, map-same}
use Rattle.std.proofs.lemmas.Simd.{map-map}
use Rattle.std.proofs.lemmas.Bool.{not-true, cond_both}

-- the parts of an extension, brought into order

abbrev pub no_trues : List Text → List Text
no_trues ps = filter (λ p. not (is_true (lower p))) ps

abbrev pub or_first : List Text → List Text → List Text
or_first [] [] = []
or_first [] (p ∷ ps) = p ∷ []
or_first (q ∷ qs) ps = q ∷ qs

abbrev pub keep_one : List Text → List Text
keep_one ps = or_first (no_trues ps) ps

abbrev pub sort_words : List Text → List Text
sort_words ws = sort word_cmp lower ws

abbrev pub sort_fields : Fields → Fields
sort_fields fs = sort word_cmp (λ f. lower f.0) fs

abbrev pub sort_identifier : SpelledIdentifier → SpelledIdentifier
sort_identifier i =
    record { language = i.language; script = i.script; region = i.region; variants = sort_words i.variants }

abbrev pub without_repeats : Extension → Extension
without_repeats (unicode u) = unicode
    (record { attributes = dedup (λ a. a) [] u.attributes; keywords = dedup (λ f. f.0) [] u.keywords })
without_repeats (transform m) = transform (record { id = m.id; fields = dedup (λ f. f.0) [] m.fields })
without_repeats (other ps) = other ps

abbrev pub without_trues : Extension → Extension
without_trues (unicode u) =
    unicode (record { attributes = u.attributes; keywords = map (λ f. (f.0, no_trues f.1)) u.keywords })
without_trues (transform m) =
    transform (record { id = m.id; fields = map (λ f. (f.0, keep_one f.1)) m.fields })
without_trues (other ps) = other ps

abbrev pub without_dropped : Extension → Extension
without_dropped (other ps) = other (filter (is_word Subtag) ps)
without_dropped e = e

abbrev pub with_sorted_variants : Extension → Extension
with_sorted_variants (transform m) =
    transform (record { id = option_map sort_identifier m.id; fields = m.fields })
with_sorted_variants e = e

abbrev pub with_sorted_attributes : Extension → Extension
with_sorted_attributes (unicode u) =
    unicode (record { attributes = sort_words u.attributes; keywords = u.keywords })
with_sorted_attributes e = e

abbrev pub with_sorted_fields : Extension → Extension
with_sorted_fields (unicode u) =
    unicode (record { attributes = u.attributes; keywords = sort_fields u.keywords })
with_sorted_fields (transform m) = transform (record { id = m.id; fields = sort_fields m.fields })
with_sorted_fields (other ps) = other ps

-- each is a step

pub repeats_step : (e : Extension) → ExtensionStep Repeats e (without_repeats e)
repeats_step (unicode u) = ExtensionStep.unicode_repeats (without-dedup (λ a. a) [] u.attributes)
    (without-dedup (λ (f : Field). f.0) [] u.keywords)
repeats_step (transform m) =
    ExtensionStep.transform_repeats (without-dedup (λ (f : Field). f.0) [] m.fields)
repeats_step (other ps) = ExtensionStep.same

-- the values of a field where one stays
record Kept (ps qs : List Text) : Type 0 where
  less : Without (λ p. is_true (lower p)) ps qs
  positive : 0 < length qs
  value : spelled_value (normal_values qs) ≡ low qs

no_true_means : (qs : List Text) → AllByRecursion (λ q. is_true (lower q) ≡ false) qs →
    normal_values qs ≡ low qs
no_true_means [] h = refl
no_true_means (q ∷ qs) h = search (no_true_means qs h.1)

none_true : (ps : List Text) → AllByRecursion (λ q. is_true (lower q) ≡ false) (no_trues ps)
none_true ps = grind (arith, all_weaker, not-true, filter-passes)

pub true_word : (w : Text) → is_true w ≡ true → codes "true" ≡ w
unfolding is_true
true_word w h = same_words (codes "true") w ((Equal-is _).0 h)

kept_one : (p : Text) (ps : List Text) → Kept (p ∷ ps) (keep_one (p ∷ ps))
kept_one p ps = at_rest (no_trues (p ∷ ps)) refl (none_true (p ∷ ps))
  where
    at_rest : (qs : List Text) → no_trues (p ∷ ps) ≡ qs →
        AllByRecursion (λ q. is_true (lower q) ≡ false) qs → Kept (p ∷ ps) (or_first qs (p ∷ ps))
    at_rest (q ∷ qs) e n = record {
      less = rw e at (without-filter (λ p. is_true (lower p)) (p ∷ ps));
      positive = omega arith;
      value = ap spelled_value (no_true_means (q ∷ qs) n);
    }
    at_rest [] e n = (elim (is_true (lower p)) as (λ b.
        is_true (lower p) ≡ b → cond (not b) (p ∷ no_trues ps) (no_trues ps) ≡ [] → Kept (p ∷ ps) (p ∷ [])) [
          | true ↦ λ t e. record {
            less = Without.stays
                (rw e at (without-filter (λ p. is_true (lower p)) ps));
            positive = omega arith;
            value = grind (arith, true_word);
          }
          | false ↦ λ t e. cc
        ]) refl e

kept_some : (ps : List Text) → 0 < length ps → Kept ps (keep_one ps)
kept_some [] h = absurd (omega arith)
kept_some (p ∷ ps) h = kept_one p ps

trues_unicode : (fs : Fields) → AllZip TreeLessTrue fs (map (λ f. (f.0, no_trues f.1)) fs)
trues_unicode fs = zip_map TreeLessTrue (λ f. Unit {0}) (λ f. (f.0, no_trues f.1))
    (search without-filter) fs (all_of _ (λ f. tt) fs)

pub trues_step : (T : LanguageLengths) (c : ℕ) (e : Extension) → IsExtension T c e →
    ExtensionStep Trues e (without_trues e)
trues_step T c (unicode u) h = ExtensionStep.unicode_trues (trues_unicode u.keywords)
trues_step T c (transform m) h = ExtensionStep.transform_trues (grind (arith, zip_map, kept_some))
trues_step T c (other ps) h = ExtensionStep.same

without_others : (keep : Text → Bool) (ps : List Text) →
    Without (λ p. not (keep p)) ps (filter keep ps)
without_others keep [] = Without.none
without_others keep (p ∷ ps) = cond_both (keep p) _ _ (Without (λ p. not (keep p)) (p ∷ ps))
    (λ _. Without.stays (without_others keep ps))
    (λ e. Without.left_out (ap not e) (without_others keep ps))

pub dropped_step : (e : Extension) → ExtensionStep DroppedPieces e (without_dropped e)
dropped_step (other ps) = ExtensionStep.dropped_pieces (without_others (is_word Subtag) ps)
dropped_step _ = ExtensionStep.same

pub identifier_order_step : (i : SpelledIdentifier) → TreeIdentifierStep VariantOrder i (sort_identifier i)
identifier_order_step i = TreeIdentifierStep.variants (reordered-sort word_cmp lower i.variants)

pub variant_order_step : (e : Extension) → ExtensionStep VariantOrder e (with_sorted_variants e)
variant_order_step (transform m) = at_id m.id m.fields
  where
    at_id : (i : Option SpelledIdentifier) (fs : Fields) →
        ExtensionStep VariantOrder (transform (record { id = i; fields = fs }))
        (transform (record { id = option_map sort_identifier i; fields = fs }))
    at_id None fs = ExtensionStep.same
    at_id (Some i) fs = ExtensionStep.identifier (identifier_order_step i)
variant_order_step _ = ExtensionStep.same

pub attribute_order_step : (e : Extension) → ExtensionStep AttributeOrder e (with_sorted_attributes e)
attribute_order_step (unicode u) = ExtensionStep.attribute_order (reordered-sort word_cmp lower u.attributes)
attribute_order_step _ = ExtensionStep.same

abbrev pub KeysDiffer : Extension → Type 0
KeysDiffer (unicode u) = keys_differ u.keywords
KeysDiffer (transform m) = keys_differ m.fields
KeysDiffer (other ps) = Unit {0}

pub field_order_step : (e : Extension) → KeysDiffer e → ExtensionStep FieldOrder e (with_sorted_fields e)
field_order_step (unicode u) d = ExtensionStep.keyword_order d (search reordered-sort)
field_order_step (transform m) d = ExtensionStep.field_order d (search reordered-sort)
field_order_step (other ps) d = ExtensionStep.same

pub keys_differ_then : (e : Extension) →
    KeysDiffer
    (with_sorted_attributes (with_sorted_variants (without_dropped (without_trues (without_repeats e)))))
keys_differ_then (other ps) = tt
keys_differ_then _ = search (map-map, different-dedup)

-- what an extension in order means is its lower case

abbrev pub IsCanonical : Extension → Type 0
IsCanonical (unicode u) = unicode (spelled_unicode (normal_unicode u)) ≡ low_extension (unicode u)
IsCanonical (transform m) = transform (spelled_transform (normal_transform m)) ≡ low_extension (transform m)
IsCanonical (other ps) = kept ps ≡ low ps

sorted_set : (ws : List Text) → AllDifferent word_cmp (map lower ws) →
    set_of (low (sort_words ws)) ≡ low (sort_words ws)
sorted_set ws d = set_of_ascending (low (sort_words ws))
    (ascend_as_keys _ (simp (map-map, sorted-sort, word_cmp_total)))

no_true_entries : (fs : Fields) →
    AllByRecursion (λ f. AllByRecursion (λ q. is_true (lower q) ≡ false) f.1) fs →
    map {B = Field} (λ f. (lower f.0, normal_values f.1)) fs ≡ low_fields fs
no_true_entries fs h = search (map-same, all_weaker, no_true_means)

canonical_keywords : (fs : Fields) → keys_differ fs →
    AllByRecursion (λ f. AllByRecursion (λ q. is_true (lower q) ≡ false) f.1) fs →
    normal_fields (sort_fields fs) ≡ low_fields (sort_fields fs)
canonical_keywords fs d n =
    map_of_sorted word_cmp (map (λ f. (lower f.0, normal_values f.1)) (sort_fields fs))
    (simp (sorted-sort, word_cmp_total))
    ∙ no_true_entries (sort_fields fs)
    (all_reordered (λ f. AllByRecursion (λ q. is_true (lower q) ≡ false) f.1)
    (reordered-sort word_cmp (λ (f : Field). lower f.0) fs) n)

abbrev IsSpelled : Field → Type 0
IsSpelled f = spelled_value (normal_values f.1) ≡ low f.1

spelled_entries : (fs : Fields) → AllByRecursion IsSpelled fs →
    spelled_fields (map (λ f. (lower f.0, normal_values f.1)) fs) ≡ low_fields fs
spelled_entries [] h = refl
spelled_entries (f ∷ fs) h = search (spelled_entries fs h.1)

canonical_fields : (fs : Fields) → keys_differ fs → AllByRecursion IsSpelled fs →
    spelled_fields (normal_fields (sort_fields fs)) ≡ low_fields (sort_fields fs)
canonical_fields fs d n =
    ap spelled_fields
    (simp (map_of_sorted, sorted-sort, word_cmp_total))
    ∙ spelled_entries (sort_fields fs)
    (all_reordered IsSpelled (reordered-sort word_cmp (λ (f : Field). lower f.0) fs) n)

spelled_kept : (fs : Fields) → AllByRecursion IsField fs →
    AllByRecursion IsSpelled (map (λ f. (f.0, keep_one f.1)) fs)
spelled_kept = all_mapped IsField IsSpelled (λ f. (f.0, keep_one f.1)) (λ f h. (kept_some f.1 h.2).value)

pub canonical_identifier : (i : SpelledIdentifier) → AllDifferent word_cmp (map lower i.variants) →
    lower_identifier (normal_identifier (sort_identifier i)) ≡ lower_identifier (sort_identifier i)
canonical_identifier i d =
    search (same_identifier, lower-lower, option_map-then, lower-title, lower-upper, sorted_set, lower_twice)

canonical_optional : (T : LanguageLengths) (o : Option SpelledIdentifier) → IfSome o (IsIdentifier T) →
    option_map lower_identifier (option_map normal_identifier (option_map sort_identifier o))
    ≡ option_map lower_identifier (option_map sort_identifier o)
canonical_optional T None h = refl
canonical_optional T (Some i) h = ap Some (canonical_identifier i h.different)

pub canonical : (T : LanguageLengths) (c : ℕ) (e : Extension) → IsExtension T c e →
    IsCanonical (with_sorted_fields
    (with_sorted_attributes (with_sorted_variants (without_dropped (without_trues (without_repeats e))))))
canonical T c (unicode u) h =
    let ds : List Text = dedup (λ a. a) [] u.attributes in
    let ks : Fields = map (λ f. (f.0, no_trues f.1)) (dedup (λ f. f.0) [] u.keywords) in
    λ i. unicode (record {
      attributes = sorted_set ds (different-dedup (λ (a : Text). a) [] u.attributes) i;
      keywords = canonical_keywords ks (keys_differ_then (unicode u))
          (all_mapped (λ f. Unit {0}) (λ f. AllByRecursion (λ q. is_true (lower q) ≡ false) f.1)
          (λ f. (f.0, no_trues f.1)) (λ f _. none_true f.1) (dedup (λ f. f.0) [] u.keywords)
          (all_of _ (λ f. tt) (dedup (λ f. f.0) [] u.keywords))) i;
    })
canonical T c (transform m) h =
    let ds : Fields = dedup (λ f. f.0) [] m.fields in
    let ks : Fields = map (λ f. (f.0, keep_one f.1)) ds in
    λ i. transform (record {
      id = canonical_optional T m.id h.1.id i;
      fields = canonical_fields ks (keys_differ_then (transform m))
          (spelled_kept ds (all_repeats IsField (λ f. f.0)
          (without-dedup (λ (f : Field). f.0) [] m.fields) h.1.fields)) i;
    })
canonical T c (other ps) h = rw (low, filter_all, filter-passes)
