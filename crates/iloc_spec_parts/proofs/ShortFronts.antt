-- Short blocks: they are short whatever follows them. And other words for them: by the longest front
-- of an identifier, and by the singletons that were seen.
use Rattle.std.proofs.Common.{◌≡◌, ◌↔◌, ℕ, ◌≤◌, Bool, true, false, cond, ◌||◌, List, [], ◌∷◌, ◌++◌, length, map, refl, sym, ap, ◌∙◌, subst, arith, Option, true≢false}
use Rattle.std.proofs.lemmas.Bool.{cond_both, false_from_ne_true, eqb-true, or_parts, both_ways, or_from}
use Rattle.iloc_spec_grammar.specs.Syntax.{LanguageLengths, Block, Text, Kind, Language, Attribute, is_word, IsWord, AreLengths, lower, word_cmp, SpelledIdentifier, lower_singleton, first_piece}
use Rattle.iloc_spec_grammar.specs.Tree.{HasSingleton, IsNew, IsBlock}
use Rattle.iloc_spec_grammar.specs.Meaning.{RepeatsVariant, IsSecond}
use Rattle.iloc_spec_grammar.specs.Reading.{EndsBefore, starts_block, is_two, after_region, front_of, after_front, IdentifierFront}
use Rattle.iloc_spec_grammar.specs.Computing.{all_different}
use Rattle.iloc_spec_grammar.proofs.WordsLaws.{length-language, length-transform_key}
use Rattle.iloc_spec_grammar.proofs.FaultLaws.{AreGood}
use Rattle.iloc_spec_grammar.proofs.Readings.{IsLong, long_script, long_region, long_variant, long_attribute}
use Rattle.iloc_spec_grammar.proofs.ReadingLaws.{front_is_front, skip_while-append, skip_first-append, keep_while-append}
use Rattle.iloc_spec_grammar.proofs.RuleTests.{tests_different, tests_not}
use Rattle.iloc_spec_grammar.proofs.SameMeaning.{blocks_spelled}
use Rattle.iloc_spec_parts.specs.Fronts.{is_keyword_piece, keywords_front, FrontRead, absent, present, BeginsField}
use Rattle.iloc_spec_parts.specs.Inline.{IsShortUnicode, IsShortTransform, IsShortBlock, ReachesLongBlock}
use Rattle.iloc_spec_parts.proofs.FrontLaws.{block_ends, not_attribute}
use Rattle.iloc_spec_parts.proofs.TransformLaws.{front_language, one_longest, no_empty_language, no_key_empty, read_no_repeats, repeats_in_block}

-- a front that ends before the rest

-- no word of more than one byte begins what may follow a block
long_ends : (k : Kind) → ((p : Text) → IsWord k p → IsLong p) → (rest : List Text) →
    starts_block rest ≡ true → EndsBefore (is_word k) rest
long_ends k long [] s = tt
long_ends k long (p ∷ ps) s = grind (arith, false_from_ne_true, true≢false)

-- after `u`

keywords_before : (ps rest : List Text) → starts_block rest ≡ true →
    keywords_front (ps ++ rest) ≡ keywords_front ps
keywords_before [] [] s = refl
keywords_before [] (q ∷ qs) s = rw (block_ends (q ∷ qs) s).two_bytes refl
keywords_before (p ∷ ps) rest s = ap (λ l. cond (is_two p) l [])
    (keep_while-append is_keyword_piece (p ∷ ps) rest (block_ends rest s).keyword_piece)

pub short_unicode_front : (ps rest : List Text) → starts_block rest ≡ true →
    IsShortUnicode ps ↔ IsShortUnicode (ps ++ rest)
short_unicode_front ps rest s = grind (
  arith,
  keep_while-append,
  block_ends,
  skip_while-append,
  keywords_before,
)

-- after `t`

-- the pieces after an identifier at the front
abbrev pub after_identifier : (ℕ → Bool) → List Text → List Text
after_identifier T ps = cond (is_word (Language T) (first_piece ps)) (after_front ps) ps

region_before : (p : Text) (ps rest : List Text) → starts_block rest ≡ true →
    after_region (p ∷ (ps ++ rest)) ≡ after_region (p ∷ ps) ++ rest
region_before p ps rest s = simp (skip_first-append, long_ends, long_script, long_region)

variants_before : (p : Text) (ps rest : List Text) → starts_block rest ≡ true →
    (front_of (p ∷ (ps ++ rest))).variants ≡ (front_of (p ∷ ps)).variants
unfolding front_of
variants_before p ps rest s = simp (region_before, keep_while-append, long_ends, long_variant)

after_before : (p : Text) (ps rest : List Text) → starts_block rest ≡ true →
    after_front (p ∷ (ps ++ rest)) ≡ after_front (p ∷ ps) ++ rest
unfolding after_front
after_before p ps rest s = simp (region_before, skip_while-append, long_ends, long_variant)

no_first_key : (rest : List Text) → starts_block rest ≡ true → BeginsField rest → ⊥
no_first_key [] s b = true≢false (sym b.0 ∙ no_key_empty)
no_first_key (p ∷ ps) s b = grind (arith, length-transform_key, eqb-true)

no_first_value : (rest : List Text) → starts_block rest ≡ true → IsWord Attribute (first_piece rest) → ⊥
no_first_value [] s w = true≢false (sym w ∙ not_attribute [] (omega arith))
no_first_value (p ∷ ps) s w = true≢false (sym s ∙ long_attribute p w)

begins_before : (ps rest : List Text) → starts_block rest ≡ true →
    BeginsField ps ↔ BeginsField (ps ++ rest)
begins_before [] rest s = (λ b. absurd (no_first_key [] refl b), λ b. absurd (no_first_key rest s b))
begins_before (k ∷ []) rest s =
    (λ b. absurd (no_first_value [] refl b.1), λ b. absurd (no_first_value rest s b.1))
begins_before (k ∷ v ∷ ps) rest s = (λ b. b, λ b. b)

no_first_language : {T : ℕ → Bool} → AreLengths T → (rest : List Text) → starts_block rest ≡ true →
    is_word (Language T) (first_piece rest) ≡ false
no_first_language table [] s = no_empty_language table
no_first_language {T = T} table (p ∷ ps) s = grind (arith, false_from_ne_true, length-language, eqb-true)

pub none_first : {T : ℕ → Bool} → AreLengths T → (rest : List Text) → starts_block rest ≡ true →
    IsShortTransform T rest
none_first {T = T} table rest s = grind (arith, no_first_language, true≢false, no_first_key)

field_before : (T : LanguageLengths) (p : Text) (ps rest : List Text) → starts_block rest ≡ true →
    BeginsField (after_identifier T (p ∷ ps)) ↔ BeginsField (after_identifier T (p ∷ (ps ++ rest)))
field_before T p ps rest s =
    elim (is_word (Language T) p) as (λ t. BeginsField (cond t (after_front (p ∷ ps)) (p ∷ ps))
    ↔ BeginsField (cond t (after_front (p ∷ (ps ++ rest))) (p ∷ (ps ++ rest)))) [
      | true ↦ rw (after_before p ps rest s) (begins_before (after_front (p ∷ ps)) rest s)
      | false ↦ begins_before (p ∷ ps) rest s
    ]

pub short_transform_front : {T : ℕ → Bool} → AreLengths T → (ps rest : List Text) →
    starts_block rest ≡ true → IsShortTransform T ps ↔ IsShortTransform T (ps ++ rest)
short_transform_front table [] rest s = search none_first
short_transform_front {T = T} table (p ∷ ps) rest s =
    let few = variants_before p ps rest s in
    let repeats = repeats_in_block table (p ∷ ps) rest s in
    grind (arith, field_before)

-- by the longest front of an identifier
pub record IsShortByFronts (T : LanguageLengths) (ps : List Text) : Type 0 where
  pub variants : (i : SpelledIdentifier) (rest : List Text) → IdentifierFront T ps i rest →
      length i.variants ≤ 4
  pub no_field : (o : Option SpelledIdentifier) (middle : List Text) → FrontRead T ps o middle →
      ¬ (BeginsField middle)

pub fronts_are_short : {T : ℕ → Bool} (ps : List Text) → IsShortTransform T ps → IsShortByFronts T ps
fronts_are_short {T = T} [] h =
    record { variants = λ i rest f. let e = f.spelled in absurd (cc); no_field = empty }
  where
    empty : (o : Option SpelledIdentifier) (middle : List Text) → FrontRead T [] o middle →
        ¬ (BeginsField middle)
    empty _ _ (absent e) b = no_first_key [] refl b
    empty _ _ (present g f) b = let e = f.spelled in absurd (cc)
fronts_are_short {T = T} (p ∷ ps) h = record { variants = few; no_field = no_field }
  where
    few : (i : SpelledIdentifier) (rest : List Text) → IdentifierFront T (p ∷ ps) i rest →
        length i.variants ≤ 4
    few i rest f =
        let l = front_language (p ∷ ps) i rest f.words f.spelled in
        (rw (one_longest (p ∷ ps) _ i _ rest (front_is_front p ps l) f).0 at (h.variants l))

    no_field : (o : Option SpelledIdentifier) (middle : List Text) → FrontRead T (p ∷ ps) o middle →
        ¬ (BeginsField middle)
    no_field _ _ (absent e) b = h.no_field (read_no_repeats (p ∷ ps) (absent e))
        (rw e b)
    no_field _ _ (present {i = i} {rest = rest} g f) b =
        let l = front_language (p ∷ ps) i rest f.words f.spelled in
        h.no_field (read_no_repeats (p ∷ ps) (present g f))
        (rw l (subst BeginsField (one_longest (p ∷ ps) i _ rest _ f (front_is_front p ps l)).1 b))

empty_front : length (front_of []).variants ≤ 4
unfolding front_of
empty_front = omega arith

empty_after : (T : LanguageLengths) → after_identifier T [] ≡ []
unfolding after_front
empty_after T = grind arith

pub short_by_fronts : {T : ℕ → Bool} (ps : List Text) → IsShortByFronts T ps → IsShortTransform T ps
short_by_fronts {T = T} [] h = search (empty_front, no_first_key, empty_after)
short_by_fronts {T = T} (p ∷ ps) h =
    record { variants = λ l. h.variants _ _ (front_is_front p ps l); no_field = no_field }
  where
    no_field : ¬ (RepeatsVariant T (p ∷ ps)) → ¬ (BeginsField (after_identifier T (p ∷ ps)))
    no_field n = cond_both (is_word (Language T) p) _ _ (λ (l : List Text). ¬ (BeginsField l))
        (λ l.
        let taken = front_is_front p ps l in
        (elim (all_different word_cmp (map lower (front_of (p ∷ ps)).variants))
        as (λ d. all_different word_cmp (map lower (front_of (p ∷ ps)).variants) ≡ d →
        ¬ (BeginsField (after_front (p ∷ ps)))) [
          | true ↦ λ d. h.no_field _ _ (present
              (record { words = taken.words; different = (tests_different word_cmp _).holds d }) taken)
          | false ↦ λ d. absurd (n (
            front_of (p ∷ ps),
            after_front (p ∷ ps),
            taken.words,
            taken.spelled,
            tests_not (tests_different word_cmp _) d,
          ))
        ]) refl)
        (λ l. h.no_field _ _ (absent l))

-- A long block is met after those with the singletons in seen: they are good, and its own singleton
-- is a letter or digit, and new.
pub data MeetsLongBlock (T : LanguageLengths) : Text → List Block → Type 0 where
  here : {seen : List ℕ} {b : Block} {bs : List Block} → HasSingleton b →
      IsNew seen b → ¬ (IsShortBlock T b) → MeetsLongBlock T seen (b ∷ bs)
  later : {seen : List ℕ} {b : Block} {bs : List Block} → HasSingleton b →
      IsNew seen b → IsBlock T b → MeetsLongBlock T (lower_singleton b ∷ seen) bs →
      MeetsLongBlock T seen (b ∷ bs)

-- what was met, after good blocks
record Met (T : LanguageLengths) (seen : List ℕ) (bs : List Block) : Type 0 where
  good : List Block
  block : Block
  rest : List Block
  whole : bs ≡ good ++ (block ∷ rest)
  good_before : AreGood T seen good
  letter : HasSingleton block
  new : IsNew seen block
  first : ¬ (IsSecond good block)
  long : ¬ (IsShortBlock T block)

module _ {T : ℕ → Bool} where
  met : {seen : List ℕ} {bs : List Block} → MeetsLongBlock T seen bs → Met T seen bs
  met (here {b = b} {bs = bs} l n x) = record {
    good = [];
    block = b;
    rest = bs;
    whole = refl;
    good_before = tt;
    letter = l;
    new = n;
    first = both_ways _ refl;
    long = x;
  }
  met (later {b = d} l n r m) =
      let h = met m in
      let parts = or_parts _ _ h.new in
      record {
        good = d ∷ h.good;
        block = h.block;
        rest = h.rest;
        whole = ap (λ ds. d ∷ ds) h.whole;
        good_before = ((l, n, r), h.good_before);
        letter = h.letter;
        new = parts.1;
        first = both_ways _ (or_from _ _ parts.0 (false_from_ne_true _ h.first));
        long = h.long;
      }

  pub met_is_reached : {bs : List Block} → MeetsLongBlock T [] bs → ReachesLongBlock T bs
  met_is_reached m = let h = met m in search blocks_spelled
