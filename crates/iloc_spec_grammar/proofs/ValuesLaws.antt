-- A value is its own normal form, and its printed form means it.
use Rattle.std.proofs.Common.{◌≡◌, ◌≢◌, ℕ, ◌+◌, ◌<◌, Bool, true, false, List, [], ◌∷◌, length, map, filter, refl, sym, ap, ap₂, ◌∙◌, arith, Option, Some, None, IfSome, option_map}
use Rattle.std.specs.List.{AllByRecursion}
use Rattle.std.specs.Ordering.{is_lt}
use Rattle.std.specs.declared.cmp.Ordering.TheVariants.{Less}
use Rattle.std.specs.FinMap.{is_sorted}
use Rattle.std.specs.FinMap.Entries.{below_all}
use Rattle.std.proofs.lemmas.Bool.{and_parts, and_from}
use Rattle.std.proofs.lemmas.Bool.Decides.{nat_tests}
use Rattle.iloc_spec_grammar.specs.Syntax.{LanguageLengths, Field, Text, Kind, Subtag, UnicodeKey, TransformKey, Attribute, is_word, IsWord, normal, lower, word_cmp, is_true, Stage, IdentifierOf, SpelledIdentifier, Identifier, Unicode, Transform, Fields, identifier_pieces, HasWords, IsIdentifier, IsKeyword, IsField, AllDifferent}
use Rattle.iloc_spec_grammar.specs.Tree.{IsUnicodeBlock, IsTransformBlock, spelled_identifier, spelled_unicode, spelled_transform}
use Rattle.iloc_spec_grammar.specs.Meaning.{map_of, set_of, normal_identifier, normal_unicode, normal_transform, normal_fields, normal_values, IdentifierMeans}
use Rattle.iloc_spec_grammar.specs.Values.{IsNormal, StrictlyAscends, IsIdentifierValue, IsUnicodeValue, IsTransformValue, lower_identifier, spelled_value, spelled_fields}
use Rattle.iloc_spec_grammar.proofs.WordsLaws.{lower-lower, title-lower, upper-lower, is_word-lower}
use Rattle.iloc_spec_grammar.proofs.MapLaws.{map_of_sorted, sorted_different, less}
use Rattle.iloc_spec_grammar.proofs.General.{all_mapped, some_mapped, map-then, option_map-then}
use Rattle.std.proofs.lemmas.List.{length-map}

pub all_weaker : {X : Type 0} (P Q : X → Type 0) → ((x : X) → P x → Q x) → (xs : List X) →
    AllByRecursion P xs → AllByRecursion Q xs
all_weaker P Q f [] h = tt
all_weaker P Q f (x ∷ xs) h = (f x h.0, all_weaker P Q f xs h.1)

pub map_fixed : {X : Type 0} (f : X → X) (xs : List X) → AllByRecursion (λ x. f x ≡ x) xs → map f xs ≡ xs
map_fixed f [] h = refl
map_fixed f (x ∷ xs) h = ap₂ ◌∷◌ h.0 (map_fixed f xs h.1)

pub filter_all : {X : Type 0} (test : X → Bool) (xs : List X) → AllByRecursion (λ x. test x ≡ true) xs →
    filter test xs ≡ xs
filter_all test [] h = refl
filter_all test (x ∷ xs) h = search (filter_all test xs h.1)

pub unmarked : (ws : List Text) → map (λ (e : Text × Text). e.0) (map (λ w. (w, w)) ws) ≡ ws
unmarked [] = refl
unmarked (w ∷ ws) = ap (λ l. w ∷ l) (unmarked ws)

-- Words in order are the keys of a map in order, and the other way round.

all_below : (w : Text) (ws : List Text) → AllByRecursion (λ v. word_cmp w v ≡ Less) ws →
    below_all word_cmp w (map (λ w. (w, w)) ws) ≡ true
all_below w [] h = refl
all_below w (v ∷ ws) h = and_from _ _ (ap is_lt h.0) (all_below w ws h.1)

below_each : (w : Text) (ws : List Text) → below_all word_cmp w (map (λ w. (w, w)) ws) ≡ true →
    AllByRecursion (λ v. word_cmp w v ≡ Less) ws
below_each w [] h = tt
below_each w (v ∷ ws) h = let parts = and_parts _ _ h in (less _ parts.0, below_each w ws parts.1)

pub keys_ascend : (ws : List Text) → StrictlyAscends word_cmp ws →
    is_sorted word_cmp (map (λ w. (w, w)) ws) ≡ true
keys_ascend [] h = refl
keys_ascend (w ∷ ws) h = and_from _ _ (all_below w ws h.0) (keys_ascend ws h.1)

pub ascend_as_keys : (ws : List Text) → is_sorted word_cmp (map (λ w. (w, w)) ws) ≡ true →
    StrictlyAscends word_cmp ws
ascend_as_keys [] h = tt
ascend_as_keys (w ∷ ws) h =
    let parts = and_parts _ _ h in (below_each w ws parts.0, ascend_as_keys ws parts.1)

-- words in order are their own set, and differ
pub set_of_ascending : (ws : List Text) → StrictlyAscends word_cmp ws → set_of ws ≡ ws
set_of_ascending ws h = simp (map_of_sorted, keys_ascend, unmarked)

pub ascending_different : (ws : List Text) → StrictlyAscends word_cmp ws → AllDifferent word_cmp ws
ascending_different ws h = grind (arith, unmarked, sorted_different, keys_ascend)

-- identifiers

pub optional_fixed : (k : Kind) (o : Option Text) → IfSome o (IsNormal k) → option_map (normal k) o ≡ o
optional_fixed k None h = refl
optional_fixed k (Some w) h = ap Some h.1

pub value_words : {T : ℕ → Bool} {i : Identifier} → IsIdentifierValue T i → HasWords T (spelled_identifier i)
value_words {i = i} h = grind (arith, all_weaker)

value_variants : {T : ℕ → Bool} (i : Identifier) → IsIdentifierValue T i → map lower i.variants ≡ i.variants
value_variants i h = grind (arith, map_fixed, all_weaker)

pub value_identifier : {T : ℕ → Bool} (i : Identifier) → IsIdentifierValue T i →
    IsIdentifier T (spelled_identifier i)
value_identifier i h = grind (arith, value_words, value_variants, ascending_different)

pub same_identifier : {s : Stage} (a b : Text) (c d r q : Option Text) (vs ws : List Text) → a ≡ b →
    c ≡ d → r ≡ q → vs ≡ ws →
    ◌≡◌ {A = IdentifierOf s} (record { language = a; script = c; region = r; variants = vs })
    (record { language = b; script = d; region = q; variants = ws })
same_identifier a b c d r q vs ws e f g h = cc

pub normal_value : {T : ℕ → Bool} (i : Identifier) → IsIdentifierValue T i →
    normal_identifier (spelled_identifier i) ≡ i
normal_value i h = grind (arith, same_identifier, optional_fixed, value_variants, set_of_ascending)

-- what is printed of an identifier means it
pub identifier_reads_back : {T : ℕ → Bool} (i : Identifier) → IsIdentifierValue T i →
    IdentifierMeans T (identifier_pieces i) i
identifier_reads_back i h = record {
  written = spelled_identifier i;
  grammatical = value_identifier i h;
  spelled = refl;
  means = sym (normal_value i h);
}

-- the same in lower case, as in a transform

word_lower : (k : Kind) (w : Text) → IsWord k w → IsWord k (lower w)
word_lower k w h = is_word-lower k w ∙ h

pub lower_twice : (ws : List Text) → map lower (map lower ws) ≡ map lower ws
lower_twice ws = map-then lower lower lower lower-lower ws

pub lower_is_identifier : {T : ℕ → Bool} (i : SpelledIdentifier) → IsIdentifier T i →
    IsIdentifier T (lower_identifier i)
lower_is_identifier i h = search (lower_twice, word_lower, some_mapped, all_mapped)

pub normal-lower_identifier : (i : SpelledIdentifier) →
    normal_identifier (lower_identifier i) ≡ normal_identifier i
normal-lower_identifier i =
    search (same_identifier, lower-lower, option_map-then, title-lower, upper-lower, lower_twice)

-- the unicode part

pub attribute_from : (w : Text) → IsWord Subtag w → length w ≢ 2 → IsWord Attribute w
unfolding is_word
attribute_from w h n = grind (arith, nat_tests)

pub all_both : {X : Type 0} (P Q : X → Type 0) (xs : List X) → AllByRecursion P xs → AllByRecursion Q xs →
    AllByRecursion (λ x. P x × Q x) xs
all_both P Q [] h k = tt
all_both P Q (x ∷ xs) h k = ((h.0, k.0), all_both P Q xs h.1 k.1)

pub values_fixed : (ws : List Text) → AllByRecursion (λ w. lower w ≡ w) ws →
    AllByRecursion (λ w. is_true w ≡ false) ws → normal_values ws ≡ ws
values_fixed ws h n = grind (arith, map_fixed, filter_all, all_weaker)

fields_fixed : (fs : Fields) → is_sorted word_cmp fs ≡ true →
    AllByRecursion (λ f. (lower f.0 ≡ f.0) × (normal_values f.1 ≡ f.1)) fs → normal_fields fs ≡ fs
fields_fixed fs sorted h = grind (arith, map_fixed, all_weaker, map_of_sorted)

-- no keyword holds `true` or a subtag of two characters
abbrev pub AreKeywordValues : Fields → Type 0
AreKeywordValues ks = AllByRecursion (λ f. AllByRecursion (λ w. (is_true w ≡ false) × (length w ≢ 2)) f.1) ks

pub value_unicode : (u : Unicode) → IsUnicodeValue u → AreKeywordValues u.keywords →
    0 < length u.attributes + length u.keywords → IsUnicodeBlock (spelled_unicode u)
value_unicode u h v n = record {
  attributes = grind (arith, all_weaker);
  keywords = all_weaker (λ f. (IsNormal UnicodeKey f.0 × AllByRecursion (IsNormal Subtag) f.1)
      × AllByRecursion (λ w. (is_true w ≡ false) × (length w ≢ 2)) f.1) IsKeyword
      (grind (arith, all_weaker, attribute_from, all_both)) u.keywords (all_both _ _ u.keywords h.keywords v);
  nonempty = n;
}

pub normal_value_unicode : (u : Unicode) → IsUnicodeValue u → AreKeywordValues u.keywords →
    normal_unicode (spelled_unicode u) ≡ u
normal_value_unicode u h v =
    let attributes : set_of (map lower u.attributes) ≡ u.attributes = grind (
      arith,
      map_fixed,
      all_weaker,
      set_of_ascending,
    ) in
    let keywords : normal_fields u.keywords ≡ u.keywords = fields_fixed u.keywords h.keys_ascend
    (grind (arith, all_weaker, values_fixed, all_both)) in
    grind arith

-- the transform part

abbrev pub IsTransformEntry : Field → Type 0
IsTransformEntry f =
    IsNormal TransformKey f.0 × AllByRecursion (λ w. IsNormal Attribute w × (is_true w ≡ false)) f.1

pub spelled_rule : (ws : List Text) →
    AllByRecursion (λ w. IsNormal Attribute w × (is_true w ≡ false)) ws →
    AllByRecursion (IsWord Attribute) (spelled_value ws) × (0 < length (spelled_value ws))
unfolding is_word
spelled_rule [] h = ((refl, tt), omega arith)
spelled_rule (w ∷ ws) h = grind (arith, all_weaker)

pub spelled_means : (ws : List Text) →
    AllByRecursion (λ w. IsNormal Attribute w × (is_true w ≡ false)) ws →
    normal_values (spelled_value ws) ≡ ws
unfolding lower is_true
spelled_means [] h = refl
spelled_means (w ∷ ws) h = grind (arith, values_fixed, all_weaker)

fields_rule : (fs : Fields) → AllByRecursion IsTransformEntry fs → AllByRecursion IsField (spelled_fields fs)
fields_rule = all_mapped IsTransformEntry IsField (λ f. (f.0, spelled_value f.1))
    (λ f h. let r = spelled_rule f.1 h.1 in (h.0.0, r.0, r.1))

fields_mean : (fs : Fields) → AllByRecursion IsTransformEntry fs →
    map (λ (f : Field). (lower f.0, normal_values f.1)) (spelled_fields fs) ≡ fs
fields_mean [] h = refl
fields_mean (f ∷ fs) h = grind (arith, spelled_means, fields_mean fs h.1)

optional_means : (T : LanguageLengths) (o : Option Identifier) → IfSome o (IsIdentifierValue T) →
    option_map normal_identifier (option_map lower_identifier o) ≡ o
optional_means T None h = refl
optional_means T (Some i) h = ap Some (normal-lower_identifier (spelled_identifier i) ∙ normal_value i h)

pub length-spelled_fields : (fs : Fields) → length (spelled_fields fs) ≡ length fs
length-spelled_fields fs = length-map fs (λ f. (f.0, spelled_value f.1))

pub value_transform : {T : ℕ → Bool} (m : Transform) → IsTransformValue T m →
    (option_map lower_identifier m.id ≡ None → 0 < length (spelled_fields m.fields)) →
    IsTransformBlock T (spelled_transform m)
value_transform {T = T} m h n = record {
  id = some_mapped (IsIdentifierValue T) (IsIdentifier T) lower_identifier
      (λ i g. lower_is_identifier (spelled_identifier i) (value_identifier i g)) m.id h.id;
  fields = fields_rule m.fields h.fields;
  nonempty = n;
}

pub normal_value_transform : {T : ℕ → Bool} (m : Transform) → IsTransformValue T m →
    normal_transform (spelled_transform m) ≡ m
normal_value_transform m h = λ i. record {
  id = optional_means _ m.id h.id i;
  fields = (ap (map_of word_cmp) (fields_mean m.fields h.fields)
      ∙ map_of_sorted word_cmp m.fields h.keys_ascend) i;
}
