-- Data locales: reading and printing.
use Rattle.std.proofs.Common.{◌≡◌, ◌≤◌, ◌⊎◌, ℕ, Bool, true, false, cond, List, ◌∷◌, ◌++◌, length, refl, sym, ap, ◌∙◌, arith, Option, Some, None, IfSome, MatchResult, Result, Ok, Err, ok_or, option_map, option_and_then, option_to_list, append_assoc, append-nil}
use Rattle.std.proofs.lemmas.Bool.{cond_both}
use Rattle.std.proofs.lemmas.Bool.Decides.{nat_tests}
use Rattle.iloc_spec_grammar.specs.Syntax.{Text, Region, Subtag, UnicodeKey, Attribute, SubdivisionSuffix, is_word, IsWord, AreLengths, lower, is_true}
use Rattle.iloc_spec_grammar.specs.Meaning.{Locale, Fault, InvalidExtension}
use Rattle.iloc_spec_grammar.specs.Values.{IsNormal, IsValue, IsWellFormed, extensions_spelling, text}
use Rattle.iloc_spec_grammar.proofs.MapLaws.{same_itself, same_is}
use Rattle.iloc_spec_grammar.proofs.WordsLaws.{is_word-lower, lower-lower}
use Rattle.iloc_spec_grammar.proofs.Corollaries.{same_text_same_value}
use Rattle.iloc_spec_parts.specs.Small.{SmallIdentifier, SmallLocale, IsSmall, HasSmallFault, IsSmallValue}
use Rattle.iloc_spec_grammar.specs.Reading.{first_item}
use Rattle.iloc_spec_parts.specs.Subdivisions.{Subdivision, subdivision_text, IsSubdivision}
use Rattle.iloc_spec_parts.specs.DataComputing.{data_of_result, data_result}
use Rattle.iloc_spec_parts.specs.DataLocales.{DataLocale, IsDataLocale, whole, whole_region, is_whole, named_subdivision, made_of, agreed, small_part, data_of_small, DataMeans, HasDataFault, not_small, no_subdivision, subdivision_value, data_text, small_of_data, locale_of_data}
use Rattle.iloc_spec_parts.proofs.Keys.{sd}
use Rattle.iloc_spec_parts.proofs.SmallLaws.{one_small, small_answer, small_apart, one_small_fault, by_result}
use Rattle.iloc_spec_parts.specs.SmallComputing.{small_result}
use Rattle.iloc_spec_parts.proofs.SmallBack.{small_back, small_is_value, small_is_well_formed, read_is_small_value}
use Rattle.iloc_spec_parts.proofs.SubdivisionLaws.{subdivision_back, subdivision_is_subtag, read_is_subdivision, text_of_read, read_is_long}

-- what is read of a text

pub data_answer : {T : ℕ → Bool} → AreLengths T → (t : Text) →
    MatchResult (data_result T t) (DataMeans T t) (HasDataFault T t)
unfolding data_result
data_answer {T = T} table t = at_small (small_result T t) (small_answer table t)
  where
    Answer : Result DataLocale Fault → Type 0
    Answer o = MatchResult o (DataMeans T t) (HasDataFault T t)

    at_data : (r : SmallLocale) → IsSmall T t r → (o : Option DataLocale) → data_of_small r ≡ o →
        Answer (ok_or o InvalidExtension)
    at_data r h None e = no_subdivision h e
    at_data r h (Some d) e = record { small = r; is_small = h; means = e }

    at_small : (o : Result SmallLocale Fault) → MatchResult o (IsSmall T t) (HasSmallFault T t) →
        Answer (data_of_result o)
    at_small (Ok r) h = at_data r h (data_of_small r) refl
    at_small (Err f) h = not_small h

pub one_data : {T : ℕ → Bool} → AreLengths T → (t : Text) (d e : DataLocale) → DataMeans T t d →
    DataMeans T t e → d ≡ e
one_data table t d e a b =
    let same : Some d ≡ Some e =
    sym a.means ∙ ap data_of_small (one_small table t a.small b.small a.is_small b.is_small) ∙ b.means in
    cc

pub data_apart : {T : ℕ → Bool} → AreLengths T → (t : Text) (d : DataLocale) (f : Fault) → DataMeans T t d →
    HasDataFault T t f → ⊥
data_apart table t d f h (not_small x) = small_apart t h.small f h.is_small x
data_apart table t d f h (no_subdivision {r = r} s e) =
    let same : Some d ≡ None =
    sym h.means ∙ ap data_of_small (one_small table t h.small r h.is_small s) ∙ e in
    cc

pub one_data_fault : {T : ℕ → Bool} (t : Text) {f g : Fault} → HasDataFault T t f → HasDataFault T t g →
    f ≡ g
one_data_fault t (not_small x) (not_small y) = one_small_fault t x y
one_data_fault t (not_small x) (no_subdivision s e) = absurd (small_apart t _ _ s x)
one_data_fault t (no_subdivision s e) (not_small y) = absurd (small_apart t _ _ s y)
one_data_fault t (no_subdivision s e) (no_subdivision q k) = refl

-- printing

abbrev keyword_by : Option Text → Option (Text × Option Text)
keyword_by o = option_map (λ w. (sd, first_item (subdivision_value w))) o

value_once : (w : Text) → option_to_list (first_item (subdivision_value w)) ≡ subdivision_value w
value_once w = grind arith

words_first : (l : Text) (s r v : List Text) (rest : List Text) →
    (l ∷ (s ++ (r ++ v))) ++ rest ≡ l ∷ (s ++ (r ++ (v ++ rest)))
words_first l s r v rest = simp append_assoc

pub text_of_data : (d : DataLocale) → text (locale_of_data d) ≡ data_text d
unfolding extensions_spelling
text_of_data d = grind (arith, words_first, sd, append-nil, value_once)

-- the keyword of a data locale

attribute_from : (w : Text) → IsWord Subtag w → 3 ≤ length w → IsWord Attribute w
unfolding is_word
attribute_from w h n = grind (arith, nat_tests)

pub sd_key : IsNormal UnicodeKey sd
unfolding is_word lower
sd_key = (refl, refl)

abbrev IsKeywordOf : Option Text → Type 0
IsKeywordOf o = IfSome o (λ w. IsWord Subtag w × (3 ≤ length w))

keyword_words : (o : Option Text) → IfSome o (IsNormal Subtag) →
    IsKeywordOf
    (option_and_then (λ w. option_and_then (λ s. cond (is_whole s) None (Some w)) (named_subdivision w)) o)
keyword_words None h = tt
keyword_words (Some w) h = grind (arith, cond_both, read_is_long)

pub small_value_of_data : {T : ℕ → Bool} (d : DataLocale) → IsDataLocale T d →
    IsSmallValue T (small_of_data d)
small_value_of_data d h =
    grind (arith, keyword_words, sd_key, cond_both, is_word-lower, attribute_from, lower-lower)

-- the locale that a data locale becomes is a value, and well-formed
pub locale_of_data_is_value : {T : ℕ → Bool} (d : DataLocale) → IsDataLocale T d →
    IsValue T (locale_of_data d)
locale_of_data_is_value d h = small_is_value (small_of_data d) (small_value_of_data d h)

pub locale_of_data_is_well_formed : {T : ℕ → Bool} → AreLengths T → (d : DataLocale) → IsDataLocale T d →
    IsWellFormed (locale_of_data d)
locale_of_data_is_well_formed table d h = search (small_is_well_formed, small_value_of_data)

-- what is read: made of a part that spells no `true`

abbrev IsReadPart : Subdivision → Type 0
IsReadPart p = IsSubdivision p × (is_whole p ≡ false → is_true (subdivision_text p) ≡ false)

abbrev MadeOf : SmallIdentifier → DataLocale → Type 0
MadeOf i d = (p : Option Subdivision) × IfSome p IsReadPart × (d ≡ made_of i.language i.script p i.variant)

whole_word : IsNormal SubdivisionSuffix whole
unfolding is_word lower
whole_word = (refl, refl)

pub whole_region_is : (r : Text) → IsNormal Region r → IsSubdivision (whole_region r)
whole_region_is r h = record { region = h; suffix = whole_word }

whole_part : (r : Text) → IsNormal Region r → IsReadPart (whole_region r)
whole_part r h = (whole_region_is r h, λ e. absurd (cc))

agreed_part : (region : Option Text) (s : Subdivision) → IfSome region (IsNormal Region) → IsReadPart s →
    IsReadPart (agreed region s)
agreed_part None s h p = p
agreed_part (Some r) s h p = grind (arith, whole_part)

parts_read : (region : Option Text) (k : Option (Text × Option Text)) →
    IfSome region (IsNormal Region) →
    IfSome k (λ k. IfSome k.1 (λ w. IsNormal Attribute w × (is_true w ≡ false))) →
    IfSome (small_part region k) (λ part. IfSome part IsReadPart)
parts_read None None h v = tt
parts_read (Some r) None h v = whole_part r h
parts_read region (Some (k, o)) h v =
    grind (arith, sd, option_and_then, agreed_part, read_is_subdivision, text_of_read)

read_made : {T : ℕ → Bool} (t : Text) (d : DataLocale) (h : DataMeans T t d) → MadeOf h.small.id d
read_made t d h = let v = read_is_small_value t h.small h.is_small in
    from (small_part h.small.id.region h.small.keyword)
    (search parts_read) h.means
  where
    from : (o : Option (Option Subdivision)) → IfSome o (λ part. IfSome part IsReadPart) →
        option_map (λ part. made_of h.small.id.language h.small.id.script part h.small.id.variant) o
        ≡ Some d →
        MadeOf h.small.id d
    from None p e = absurd (cc)
    from (Some part) p e = (part, p, cc)

-- it prints as it was read

text_stays : (p : Subdivision) → IsSubdivision p → lower (subdivision_text p) ≡ subdivision_text p
text_stays p h = sym (text_of_read _ p (subdivision_back p h))

pub read_is_data_locale : {T : ℕ → Bool} (t : Text) (d : DataLocale) → DataMeans T t d → IsDataLocale T d
read_is_data_locale {T = T} t d h =
    let v = read_is_small_value t h.small h.is_small in
    let m = read_made t d h in
    rw m.2 (record {
      language = v.language;
      script = v.script;
      region = region_is m.0 m.1;
      variant = v.variant;
      subdivision = subdivision_is m.0 m.1;
    })
  where
    region_is : (p : Option Subdivision) → IfSome p IsReadPart →
        IfSome (option_map (λ p. p.region) p) (IsNormal Region)
    region_is None h = tt
    region_is (Some p) h = h.0.region

    subdivision_is : (p : Option Subdivision) → IfSome p IsReadPart →
        IfSome (option_map subdivision_text p) (IsNormal Subtag)
    subdivision_is None h = tt
    subdivision_is (Some p) h = (subdivision_is_subtag p h.0, text_stays p h.0)

-- the part that is printed for a part is read as it
part_back : (p : Option Subdivision) → IfSome p IsReadPart →
    small_part (option_map (λ p. p.region) p) (keyword_by
    (option_and_then (λ w. option_and_then (λ s. cond (is_whole s) None (Some w)) (named_subdivision w))
    (option_map subdivision_text p)))
    ≡ Some p
part_back None h = refl
part_back (Some p) h = rw (subdivision_back p h.0) (elim (is_whole p) as (λ b. is_whole p ≡ b →
    small_part (Some p.region) (keyword_by (cond b None (Some (subdivision_text p)))) ≡ Some (Some p)) [
      | true ↦
          λ e.
          ap (λ x. Some (Some (record { region = p.region; suffix = x }))) (sym (same_is p.suffix whole e))
      | false ↦ λ e. with_keyword (h.1 e)
    ] refl)
  where
    with_keyword : is_true (subdivision_text p) ≡ false →
        small_part (Some p.region) (keyword_by (Some (subdivision_text p))) ≡ Some (Some p)
    with_keyword n = rw (text_stays p h.0, n, subdivision_back p h.0, same_itself p.region) refl

pub read_back : {T : ℕ → Bool} (t : Text) (d : DataLocale) → DataMeans T t d → DataMeans T (data_text d) d
read_back {T = T} t d h =
    let m = read_made t d h in
    record {
      small = small_of_data d;
      is_small = rw (text_of_data d) at (small_back (small_of_data d)
          (small_value_of_data d (read_is_data_locale t d h)));
      means = ap (λ (e : DataLocale). data_of_small (small_of_data e)) m.2
          ∙ ap (option_map (λ part. made_of h.small.id.language h.small.id.script part h.small.id.variant))
          (part_back m.0 m.1)
          ∙ ap Some (sym m.2);
    }

pub data_or_fault : {T : ℕ → Bool} → AreLengths T → (t : Text) →
    ((d : DataLocale) × DataMeans T t d) ⊎ ((f : Fault) × HasDataFault T t f)
data_or_fault {T = T} table t =
    by_result (DataMeans T t) (HasDataFault T t) (data_result T t) (data_answer table t)

-- no other well-formed value has its text
pub only_locale : {T : ℕ → Bool} → AreLengths T → (d : DataLocale) → IsDataLocale T d → (M : Locale) →
    IsValue T M → IsWellFormed M → text M ≡ data_text d → M ≡ locale_of_data d
only_locale {T = T} table d h M v w e = search (
  same_text_same_value,
  locale_of_data_is_well_formed,
  text_of_data,
)
