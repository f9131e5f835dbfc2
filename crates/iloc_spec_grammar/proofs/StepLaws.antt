-- A step keeps the rules, the meaning and the sums over the pieces.
use Rattle.std.proofs.Common.{◌≡◌, ℕ, ◌+◌, ◌<◌, Bool, true, false, cond, List, [], ◌∷◌, length, map, filter_map, refl, sym, ap, ◌∙◌, arith, Option, Some, None}
use Rattle.std.specs.List.{AllByRecursion, list_any, AllZip, cons_option}
use Rattle.std.specs.Char.{to_ascii_lowercase}
use Rattle.std.specs.Ordering.{nat_cmp, eq_by_cmp}
use Rattle.std.specs.Cmp.{nat_cmp_total}
use Rattle.std.specs.FinMap.{find, nat_cmp-IsAntisymmetric}
use Rattle.std.proofs.lemmas.Bool.{or_parts, or_from, not-true, both_ways, false_from_ne_true}
use Rattle.iloc_spec_grammar.specs.Syntax.{LanguageLengths, Field, Block, code_u, code_t, Text, Attribute, IsWord, lower, word_cmp, is_true, SpelledIdentifier, Fields, IsIdentifier, IsKeyword, IsField, lower_singleton, AllDifferent}
use Rattle.iloc_spec_grammar.specs.Tree.{Extension, other, Written, IsExtension, IsWritten, unicode_part, transform_part, private_part, other_part, by_singleton, meaning}
use Rattle.iloc_spec_grammar.specs.Meaning.{map_of, set_of, normal_identifier, normal_values, normal_fields}
use Rattle.iloc_spec_grammar.specs.Values.{Reordered, Without, WithoutRepeats}
use Rattle.iloc_spec_grammar.specs.TreeSteps.{TreeLessTrue, keys_differ, TreeRule, TreeIdentifierStep, ExtensionStep, Step, unicode_extension, transform_extension}
use Rattle.iloc_spec_grammar.proofs.MapLaws.{map_of_same, word_cmp_total, same_words}
use Rattle.iloc_spec_grammar.proofs.Orders.{all_reordered, map_reordered, different_reordered, find_reordered, set_of_reordered, map_repeats, all_repeats, all_without, filter_without, itself, length_reordered}
use Rattle.iloc_spec_grammar.proofs.General.{map-zip, all_zip, zip_weaker}
use Rattle.std.proofs.lemmas.Simd.{map-map}
use Rattle.std.proofs.lemmas.Slice.Zip.{AllZip-long}

-- identifiers

pub identifier_step : {T : ℕ → Bool} {r : TreeRule} {i j : SpelledIdentifier} → TreeIdentifierStep r i j →
    IsIdentifier T i → IsIdentifier T j × (normal_identifier j ≡ normal_identifier i)
identifier_step TreeIdentifierStep.same h = (h, refl)
identifier_step (TreeIdentifierStep.variants {l = l} {s = s} {r = r} {vs = vs} {ws = ws} p) h = (
  record {
    words = search all_reordered;
    different = different_reordered word_cmp word_cmp_total (map_reordered lower p) h.different;
  },
  grind (arith, set_of_reordered, map_reordered),
)

-- fields

abbrev entry : Field → Field
entry f = (lower f.0, normal_values f.1)

fields_reordered : {fs gs : Fields} → keys_differ fs → Reordered fs gs → normal_fields gs ≡ normal_fields fs
fields_reordered {fs = fs} {gs = gs} d r =
    grind (arith, map_of_same, word_cmp_total, same_words, find_reordered, map_reordered, map-map)

-- what is `true` is dropped
values_without : {ps qs : List Text} → Without (λ p. is_true (lower p)) ps qs →
    normal_values ps ≡ normal_values qs
values_without Without.none = refl
values_without (Without.stays {x = x} r) = simp (values_without r)
values_without (Without.left_out {x = x} {xs = xs} e r) = search (values_without r)

entries_less : (fs gs : Fields) → AllZip TreeLessTrue fs gs → map entry fs ≡ map entry gs
entries_less = grind (arith, map-zip, values_without)

keywords_less : (fs gs : Fields) → AllZip TreeLessTrue fs gs → AllByRecursion IsKeyword fs →
    AllByRecursion IsKeyword gs
keywords_less = grind (arith, all_zip, all_without)

abbrev LessKept : Field → Field → Type 0
LessKept f g = TreeLessTrue f g × (0 < length g.1)

fields_less : (fs gs : Fields) → AllZip LessKept fs gs → AllByRecursion IsField fs → AllByRecursion IsField gs
fields_less = grind (arith, all_zip, all_without)

-- leaving out repeats leaves something, where nothing was seen
some_left : {X : Type 0} (key : X → Text) {xs ys : List X} → WithoutRepeats key [] xs ys → 0 < length xs →
    0 < length ys
some_left key WithoutRepeats.none h = h
some_left key (WithoutRepeats.stays r) h = omega arith
some_left key (WithoutRepeats.left_out e r) h = cc

-- extensions

-- the two give the same part of a meaning
pub record SameParts (e f : Extension) : Type 0 where
  pub u : unicode_part (Some f) ≡ unicode_part (Some e)
  pub t : transform_part (Some f) ≡ transform_part (Some e)
  pub o : (c : ℕ) → other_part (c, f) ≡ other_part (c, e)

repeated_attributes : {vs ws : List Text} → WithoutRepeats (λ a. a) [] vs ws →
    set_of (map lower ws) ≡ set_of (map lower vs)
repeated_attributes {vs = vs} {ws = ws} r =
    let marks = map-map {B = Text} (λ w. (w, w)) lower in
    ap (map (λ (e : Text × Text). e.0)) (ap (map_of word_cmp) (marks ws)
    ∙ sym (map_repeats (λ a. a) lower r) ∙ ap (map_of word_cmp) (sym (marks vs)))

-- a step in what follows `u`, or in what follows `t`, by its two parts

unicode_step : (T : LanguageLengths) (c : ℕ) (vs ws : List Text) (fs gs : Fields) →
    (AllByRecursion (IsWord Attribute) vs → AllByRecursion (IsWord Attribute) ws) →
    (AllByRecursion IsKeyword fs → AllByRecursion IsKeyword gs) →
    (0 < length vs + length fs → 0 < length ws + length gs) → set_of (map lower ws) ≡ set_of (map lower vs) →
    normal_fields gs ≡ normal_fields fs
    → IsExtension T c (unicode_extension vs fs) →
    IsExtension T c (unicode_extension ws gs) × SameParts (unicode_extension vs fs) (unicode_extension ws gs)
unicode_step T c vs ws fs gs a k n p q h = search

fields_step : (T : LanguageLengths) (c : ℕ) (i : Option SpelledIdentifier) (fs gs : Fields) →
    (AllByRecursion IsField fs → AllByRecursion IsField gs) → (0 < length fs → 0 < length gs) →
    normal_fields gs ≡ normal_fields fs
    → IsExtension T c (transform_extension i fs) →
    IsExtension T c (transform_extension i gs)
    × SameParts (transform_extension i fs) (transform_extension i gs)
fields_step T c i fs gs k n q h = grind arith

pub extension_step : (T : LanguageLengths) {r : TreeRule} {e f : Extension} (c : ℕ) → ExtensionStep r e f →
    IsExtension T c e → IsExtension T c f × SameParts e f
extension_step T c ExtensionStep.same h = search
extension_step T c (ExtensionStep.identifier {fs = fs} s) h = let p = identifier_step s h.1.id in grind arith
extension_step T c (ExtensionStep.attribute_order {vs = vs} {ws = ws} {fs = fs} r) h =
    grind (arith, unicode_step, all_reordered, length_reordered, set_of_reordered, map_reordered)
extension_step T c (ExtensionStep.keyword_order {vs = vs} {fs = fs} {gs = gs} d r) h =
    grind (arith, unicode_step, all_reordered, length_reordered, fields_reordered)
extension_step T c (ExtensionStep.field_order {i = i} {fs = fs} {gs = gs} d r) h =
    grind (arith, fields_step, all_reordered, length_reordered, fields_reordered)
extension_step T c (ExtensionStep.unicode_repeats {vs = vs} {ws = ws} {fs = fs} {gs = gs} r s) h =
    let a = some_left (λ a. a) r in let b = some_left (λ f. f.0) s in
    unicode_step T c vs ws fs gs (all_repeats (IsWord Attribute) (λ a. a) r)
    (all_repeats IsKeyword (λ f. f.0) s) (λ n. grind arith) (repeated_attributes r)
    (sym (map_repeats (λ f. f.0) (λ f. normal_values f.1) s)) h
extension_step T c (ExtensionStep.transform_repeats {i = i} {fs = fs} {gs = gs} s) h =
    fields_step T c i fs gs (all_repeats IsField (λ f. f.0) s) (some_left (λ f. f.0) s)
    (sym (map_repeats (λ f. f.0) (λ f. normal_values f.1) s)) h
extension_step T c (ExtensionStep.unicode_trues {vs = vs} {fs = fs} {gs = gs} z) h =
    grind (arith, unicode_step, keywords_less, AllZip-long, entries_less)
extension_step T c (ExtensionStep.transform_trues {i = i} {fs = fs} {gs = gs} z) h =
    fields_step T c i fs gs (fields_less fs gs z) (λ n. let l = AllZip-long LessKept fs gs z in omega arith)
    (ap (map_of word_cmp)
    (sym (entries_less fs gs (zip_weaker LessKept TreeLessTrue (λ f g k. k.0) fs gs z)))) h
extension_step T c (ExtensionStep.dropped_pieces {ps = ps} {qs = qs} w) h =
    grind (arith, filter_without, not-true, all_without)

-- whole texts

abbrev Steps : TreeRule → List (ℕ × Extension) → List (ℕ × Extension) → Type 0
Steps r es fs = AllZip (λ e f. (e.0 ≡ f.0) × ExtensionStep r e.1 f.1) es fs

rules_step : (T : LanguageLengths) (r : TreeRule) (es fs : List (ℕ × Extension)) → Steps r es fs →
    AllByRecursion (λ e. IsExtension T (lower_singleton e) e.1) es →
    AllByRecursion (λ e. IsExtension T (lower_singleton e) e.1) fs
rules_step T r = grind (arith, all_zip, extension_step)

-- a part that is looked up
part_step : {A : Type 0} (T : LanguageLengths) (part : Option Extension → A) →
    ((e f : Extension) → SameParts e f → part (Some f) ≡ part (Some e)) →
    (q : ℕ) (r : TreeRule) (es fs : List (ℕ × Extension)) → Steps r es fs →
    AllByRecursion (λ e. IsExtension T (lower_singleton e) e.1) es →
    part (find nat_cmp q (by_singleton fs)) ≡ part (find nat_cmp q (by_singleton es))
part_step T part same q r [] [] z h = refl
part_step T part same q r (e ∷ es) (f ∷ fs) z h =
    ap (λ c.
    part (cond (eq_by_cmp nat_cmp q (to_ascii_lowercase c)) (Some f.1) (find nat_cmp q (by_singleton fs))))
    (sym z.0.0)
    ∙ elim (eq_by_cmp nat_cmp q (lower_singleton e))
    as (λ b. part (cond b (Some f.1) (find nat_cmp q (by_singleton fs)))
    ≡ part (cond b (Some e.1) (find nat_cmp q (by_singleton es)))) [
      | true ↦ same e.1 f.1 (extension_step T (lower_singleton e) z.0.1 h.0).1
      | false ↦ part_step T part same q r es fs z.1 h.1
    ]
part_step T part same q r _ _ z h = absurd z

others_step : (T : LanguageLengths) (r : TreeRule) (es fs : List (ℕ × Extension)) → Steps r es fs →
    AllByRecursion (λ e. IsExtension T (lower_singleton e) e.1) es →
    filter_map other_part (by_singleton fs) ≡ filter_map other_part (by_singleton es)
others_step T r [] [] z h = refl
others_step T r (e ∷ es) (f ∷ fs) z h = λ i. cons_option
    ((ap (λ c. other_part (to_ascii_lowercase c, f.1)) (sym z.0.0)
    ∙ (extension_step T (lower_singleton e) z.0.1 h.0).1.o (lower_singleton e)) i)
    (others_step T r es fs z.1 h.1 i)
others_step T r _ _ z h = absurd z

-- blocks in another order

find_blocks : {es fs : List (ℕ × Extension)} → Reordered es fs →
    AllDifferent nat_cmp (map (λ e. lower_singleton e) es) → (q : ℕ) →
    find nat_cmp q (by_singleton es) ≡ find nat_cmp q (by_singleton fs)
find_blocks {es = es} r d q = find_reordered nat_cmp nat_cmp_total q (search map_reordered) (search map-map)

filter_map_reordered : {X Y : Type 0} (h : X → Option Y) {xs ys : List X} → Reordered xs ys →
    Reordered (filter_map h xs) (filter_map h ys)
filter_map_reordered h Reordered.none = Reordered.none
filter_map_reordered {Y = Y} h (Reordered.front_kept {x = x} {xs = xs} {ys = ys} r) =
    at_option (h x) (filter_map_reordered h r)
  where
    at_option : (o : Option Y) → Reordered (filter_map h xs) (filter_map h ys) →
        Reordered (cons_option o (filter_map h xs)) (cons_option o (filter_map h ys))
    at_option None s = s
    at_option (Some y) s = Reordered.front_kept s
filter_map_reordered {Y = Y} h (Reordered.first_two {x = x} {y = y} {xs = xs}) = at_options (h x) (h y)
  where
    at_options : (o p : Option Y) →
        Reordered (cons_option o (cons_option p (filter_map h xs)))
        (cons_option p (cons_option o (filter_map h xs)))
    at_options None p = itself (cons_option p (filter_map h xs))
    at_options (Some a) None = itself (a ∷ filter_map h xs)
    at_options (Some a) (Some b) = Reordered.first_two
filter_map_reordered h (Reordered.in_turn r s) =
    Reordered.in_turn (filter_map_reordered h r) (filter_map_reordered h s)

-- the others have some of the singletons
none_among_others : (c : ℕ) (es : List (ℕ × Extension)) →
    list_any (eq_by_cmp nat_cmp c) (map (λ (e : ℕ × Extension). e.0) es) ≡ false →
    list_any (eq_by_cmp nat_cmp c) (map (λ (o : Block). o.0) (filter_map other_part es)) ≡ false
none_among_others c [] h = refl
none_among_others c (e ∷ es) h =
    let parts = or_parts _ _ h in at_kind e.1 parts.0 (none_among_others c es parts.1)
  where
    at_kind : (x : Extension) → eq_by_cmp nat_cmp c e.0 ≡ false →
        list_any (eq_by_cmp nat_cmp c) (map (λ (o : Block). o.0) (filter_map other_part es))
        ≡ false →
        list_any (eq_by_cmp nat_cmp c)
        (map (λ (o : Block). o.0) (filter_map other_part ((e.0, x) ∷ es)))
        ≡ false
    at_kind (other ps) t rest = or_from _ _ t rest
    at_kind _ t rest = rest

different_others : (es : List (ℕ × Extension)) → AllDifferent nat_cmp (map (λ (e : ℕ × Extension). e.0) es) →
    AllDifferent nat_cmp (map (λ (o : Block). o.0) (filter_map other_part es))
different_others [] d = tt
different_others (e ∷ es) d =
    grind (arith, both_ways, none_among_others, false_from_ne_true, different_others es d.1)

others_reordered : {es fs : List (ℕ × Extension)} → Reordered es fs →
    AllDifferent nat_cmp (map (λ e. lower_singleton e) es) →
    map_of nat_cmp (filter_map other_part (by_singleton es))
    ≡ map_of nat_cmp (filter_map other_part (by_singleton fs))
others_reordered {es = es} {fs = fs} r d = map_of_same nat_cmp nat_cmp_total nat_cmp-IsAntisymmetric
    (filter_map other_part (by_singleton es)) (filter_map other_part (by_singleton fs))
    (λ q. find_reordered nat_cmp nat_cmp_total q
    (search (filter_map_reordered, map_reordered))
    (search (different_others, map-map)))

-- written locales of which each part means the same
pub same_parts : (v w : Written) → normal_identifier v.id ≡ normal_identifier w.id →
    unicode_part (find nat_cmp code_u (by_singleton v.extensions))
    ≡ unicode_part (find nat_cmp code_u (by_singleton w.extensions)) →
    transform_part (find nat_cmp code_t (by_singleton v.extensions))
    ≡ transform_part (find nat_cmp code_t (by_singleton w.extensions)) →
    private_part v.private ≡ private_part w.private →
    map_of nat_cmp (filter_map other_part (by_singleton v.extensions))
    ≡ map_of nat_cmp (filter_map other_part (by_singleton w.extensions)) →
    meaning v ≡ meaning w
same_parts v w i u t x o = cc

-- a step keeps the rules and the meaning
pub written_step : (T : LanguageLengths) {v w : Written} → Step v w → IsWritten T v →
    IsWritten T w × (meaning w ≡ meaning v)
written_step T (Step.block_order {i = i} {es = es} {fs = fs} {x = x} r) h = (
  record {
    id = h.id;
    extensions = search all_reordered;
    different = different_reordered nat_cmp nat_cmp_total
        (search map_reordered) h.different;
    private = h.private;
  },
  grind (arith, same_parts, find_blocks, others_reordered),
)
written_step T (Step.inside r {i = i} {j = j} {es = es} {fs = fs} {x = x} s z) h =
    let p = identifier_step s h.id in (
      record {
        id = p.0;
        extensions = rules_step T r es fs z h.extensions;
        different = grind (arith, map-zip);
        private = h.private;
      },
      same_parts (record { id = j; extensions = fs; private = x })
          (record { id = i; extensions = es; private = x }) p.1
          (part_step T unicode_part (λ e f k. k.u) code_u r es fs z h.extensions)
          (part_step T transform_part (λ e f k. k.t) code_t r es fs z h.extensions) refl
          (ap (map_of nat_cmp) (others_step T r es fs z h.extensions)),
    )
