-- A small value prints as a well-formed locale does, and its text is read as it.
use Rattle.std.proofs.Common.{◌≡◌, ◌≤◌, ℕ, Bool, false, not, List, [], ◌∷◌, length, map, refl, ap, ◌∙◌, arith, Option, Some, None, IfSome, option_map, option_to_list}
use Rattle.std.specs.List.{AllByRecursion}
use Rattle.std.proofs.lemmas.Bool.{both_ways, cond_both, not-true}
use Rattle.iloc_spec_grammar.specs.Syntax.{code_u, Text, pieces, join, AreLengths, Kind, Language, Script, Region, Variant, UnicodeKey, Attribute, IsWord, lower, is_true, HasWords, word_cmp}
use Rattle.iloc_spec_grammar.specs.Tree.{IsWritten, spelling, printed, spelled_identifier}
use Rattle.iloc_spec_grammar.specs.Meaning.{normal_values}
use Rattle.iloc_spec_grammar.specs.Values.{IsNormal, StrictlyAscends, IsValue, IsWellFormed, IsIdentifierValue, text}
use Rattle.iloc_spec_grammar.proofs.ReadBack.{pieces_spelled, OfWords}
use Rattle.iloc_spec_grammar.proofs.ValuesLaws.{value_identifier, optional_fixed}
use Rattle.iloc_spec_grammar.proofs.WellRead.{option_normal}
use Rattle.iloc_spec_grammar.proofs.Corollaries.{means_a_value, read_well_formed}
use Rattle.iloc_spec_grammar.proofs.SameText.{text_is}
use Rattle.iloc_spec_parts.specs.Small.{SmallLocale, identifier_of_small, locale_of_small, IsSmall, IsSmallValue}
use Rattle.iloc_spec_parts.proofs.SmallShapes.{WrittenKeyword, small_keyword, one_at_most, first-option}
use Rattle.iloc_spec_parts.proofs.SmallTrees.{keyword_extension, small_written, IsTreeSmall, tree_is_small, small_is_tree}
use Rattle.iloc_spec_grammar.specs.Reading.{first_item}
use Rattle.iloc_spec_parts.proofs.SmallLaws.{small_means}
use Rattle.iloc_spec_grammar.proofs.ReadWords.{IsNormal-normal}

-- a small value is a value

-- one word or none is a set
pub one_normal : (k : Kind) (o : Option Text) → IfSome o (IsNormal k) →
    AllByRecursion (IsNormal k) (option_to_list o)
one_normal k None h = tt
one_normal k (Some w) h = (h, tt)

pub one_ascends : (o : Option Text) → StrictlyAscends word_cmp (option_to_list o)
one_ascends None = tt
one_ascends (Some w) = (tt, tt)

identifier_is : {T : ℕ → Bool} (r : SmallLocale) → IsSmallValue T r →
    IsIdentifierValue T (identifier_of_small r.id)
identifier_is {T = T} r h = search (one_normal, one_ascends)

-- its text is read as it

abbrev with_u : Option (Text × Option Text) → Option WrittenKeyword
with_u k = option_map (λ k. record { byte = code_u; key = k.0; values = option_to_list k.1 }) k

-- values in normal case, without `true`, stay
values_stay : (o : Option Text) → IfSome o (λ w. IsNormal Attribute w × (is_true w ≡ false)) →
    normal_values (option_to_list o) ≡ option_to_list o
values_stay None h = refl
values_stay (Some w) h = grind arith

words_of : (o : Option Text) → IfSome o (λ w. IsNormal Attribute w × (is_true w ≡ false)) →
    AllByRecursion (IsWord Attribute) (option_to_list o)
words_of None h = tt
words_of (Some w) h = (h.0.0, tt)

keyword_written : {T : ℕ → Bool} (r : SmallLocale) → IsSmallValue T r →
    IsWritten T (small_written (spelled_identifier (identifier_of_small r.id)) (with_u r.keyword))
keyword_written {T = T} r h = grind (
  arith,
  small_written,
  value_identifier,
  identifier_is,
  words_of,
  both_ways,
)

printed_small : (r : SmallLocale) →
    printed (locale_of_small r)
    ≡ small_written (spelled_identifier (identifier_of_small r.id)) (with_u r.keyword)
printed_small r = grind (arith, small_written)

variant_stays : (o : Option Text) → IfSome o (IsNormal Variant) →
    first_item (map lower (option_to_list o)) ≡ o
variant_stays None h = refl
variant_stays (Some w) h = ap Some h.1

keyword_stays : (k : Option (Text × Option Text)) → IfSome k (λ k. IsNormal UnicodeKey k.0) →
    IfSome k (λ k. IfSome k.1 (λ w. IsNormal Attribute w × (is_true w ≡ false))) →
    option_map (λ (k : WrittenKeyword). (lower k.key, first_item (normal_values k.values))) (with_u k) ≡ k
keyword_stays None a b = refl
keyword_stays (Some k) a b = grind (arith, values_stay, first-option)

pub small_back : {T : ℕ → Bool} (r : SmallLocale) → IsSmallValue T r → IsSmall T (text (locale_of_small r)) r
small_back {T = T} r h = tree_is_small _ r (record {
  id = spelled_identifier (identifier_of_small r.id);
  keyword = with_u r.keyword;
  grammatical = keyword_written r h;
  spelled = ap pieces (text_is (locale_of_small r)) ∙ ap (λ w. pieces (join (spelling w))) (printed_small r)
      ∙ pieces_spelled _ (keyword_written r h)
      (grind (arith, OfWords, keyword_extension));
  one_variant = one_at_most r.id.variant;
  one_value = one_left r.keyword h.value;
  means = grind (arith, optional_fixed, variant_stays, keyword_stays);
})
  where
    one_left : (k : Option (Text × Option Text)) →
        IfSome k (λ k. IfSome k.1 (λ w. IsNormal Attribute w × (is_true w ≡ false))) →
        IfSome (with_u k) (λ k. length (normal_values k.values) ≤ 1)
    one_left None b = tt
    one_left (Some k) b = rw (ap length (values_stay k.1 b)) (one_at_most k.1)

pub small_is_value : {T : ℕ → Bool} (r : SmallLocale) → IsSmallValue T r → IsValue T (locale_of_small r)
small_is_value r h = means_a_value _ _ (small_means _ r (small_back r h))

pub small_is_well_formed : {T : ℕ → Bool} → AreLengths T → (r : SmallLocale) → IsSmallValue T r →
    IsWellFormed (locale_of_small r)
small_is_well_formed table r h = read_well_formed table _ _ (small_means _ r (small_back r h))

-- what is read is a small value

first_is : (ws : List Text) → AllByRecursion (IsWord Variant) ws →
    IfSome (first_item (map lower ws)) (IsNormal Variant)
first_is [] h = tt
first_is (w ∷ ws) h = IsNormal-normal Variant w h.0

value_is : (ws : List Text) → AllByRecursion (IsWord Attribute) ws →
    IfSome (first_item (normal_values ws)) (λ w. IsNormal Attribute w × (is_true w ≡ false))
value_is [] h = tt
value_is (w ∷ ws) h = cond_both (not (is_true (lower w))) _ _
    (λ ws. IfSome (first_item ws) (λ w. IsNormal Attribute w × (is_true w ≡ false)))
    (λ e. (IsNormal-normal Attribute w h.0, not-true _ e))
    (λ e. value_is ws h.1)

pub read_is_small_value : {T : ℕ → Bool} (t : Text) (r : SmallLocale) → IsSmall T t r → IsSmallValue T r
read_is_small_value {T = T} t r small = rw h.means (record {
  language = IsNormal-normal (Language T) h.id.language words.language;
  script = option_normal Script h.id.script words.script;
  region = option_normal Region h.id.region words.region;
  variant = first_is h.id.variants words.variants;
  key = (parts_are h.keyword h.grammatical).0;
  value = (parts_are h.keyword h.grammatical).1;
})
  where
    h : IsTreeSmall T t r
    h = small_is_tree t r small

    words : HasWords T h.id
    words = h.grammatical.id.words

    parts_are : (k : Option WrittenKeyword) → IsWritten T (small_written h.id k) →
        IfSome (option_map small_keyword k) (λ k. IsNormal UnicodeKey k.0)
        × IfSome (option_map small_keyword k)
        (λ k. IfSome k.1 (λ w. IsNormal Attribute w × (is_true w ≡ false)))
    parts_are None g = (tt, tt)
    parts_are (Some k) g = let field = g.extensions.0.1.keywords.0 in
        (IsNormal-normal UnicodeKey k.key field.0, value_is k.values field.1)
