-- Reading doesn't see the case of letters.
use Rattle.iloc_spec_grammar.specs.Syntax.{IsPrivate, LanguageLengths, Field, Block, code_x, Text, pieces, join, Kind, is_word, AreLengths, lower, word_cmp, SpelledIdentifier, Fields, kept, lower_singleton, front, blocks, head, tail_blocks, first_piece}
use Rattle.iloc_spec_grammar.specs.Tree.{IsExtension, Extension, unicode, transform, other, Written, spelling, IsWritten, unicode_part, transform_part, private_part, other_part, by_singleton, meaning, TreeMeans}
use Rattle.std.proofs.Common.{◌≡◌, ℕ, ◌&&◌, is_some, ◌≤◌, Bool, ◌==◌, List, [], ◌∷◌, length, map, filter_map, refl, sym, ap, ap₂, ◌∙◌, subst, arith, Option, Some, None, option_map}
use Rattle.std.specs.List.{slice_split, onto_first, list_all}
use Rattle.std.specs.Char.{to_ascii_lowercase}
use Rattle.std.specs.Ordering.{nat_cmp}
use Rattle.std.specs.FinMap.{find}
use Rattle.std.proofs.lemmas.Bool.Decides.{nat_tests}
use Rattle.std.proofs.lemmas.Str.Ascii.{lowercase-lowercase}
use Rattle.iloc_spec_grammar.specs.Meaning.{map_of, normal_identifier, normal_values, Locale}
use Rattle.iloc_spec_grammar.specs.Values.{lower_identifier}
use Rattle.iloc_spec_grammar.specs.TreeSteps.{TreeTextStep}
use Rattle.std.proofs.lemmas.List.{length-map}
use Rattle.iloc_spec_grammar.specs.Computing.{holds_if_some, all_different, is_identifier, is_keyword, is_private, is_extension}
use Rattle.iloc_spec_grammar.proofs.RuleTests.{Tests, tests_and, tests_like, tests_all, tests_if_some, tests_different, tests_nat, tests_identifier, tests_private, tests_extension}
use Rattle.iloc_spec_grammar.proofs.General.{cond-map, map-then, option_map-then, list_all-mapped}
use Rattle.iloc_spec_grammar.proofs.WordsLaws.{lower-lower, length-lower, is_word-lower}
use Rattle.iloc_spec_grammar.proofs.ValuesLaws.{lower_twice, normal-lower_identifier}
use Rattle.iloc_spec_grammar.specs.Reading.{take_first, skip_first, rest_of, identifier_of, before_key, fields_from, unicode_of, transform_of, optional_of, extension_of, extensions_in, private_in, written_of}
use Rattle.iloc_spec_grammar.proofs.Readings.{written_of-spelling, one_meaning}
use Rattle.iloc_spec_grammar.proofs.StepSizes.{step_means, step_length}
pub use Rattle.iloc_spec_grammar.proofs.FaultLaws.{spelling-written_of}
use Rattle.iloc_spec_grammar.proofs.FaultLaws.{pieces-written_of}

abbrev pub low : List Text → List Text
low ps = map lower ps

-- cutting

front-low : (ps : List Text) → front (low ps) ≡ low (front ps)
front-low [] = refl
front-low (p ∷ ps) = grind (arith, cond-map, length-lower, front-low ps)

abbrev pub low_block : Block → Block
low_block b = (to_ascii_lowercase b.0, low b.1)

blocks-low : (ps : List Text) → blocks (low ps) ≡ map low_block (blocks ps)
unfolding lower
blocks-low [] = refl
blocks-low ([] ∷ ps) = blocks-low ps
blocks-low ((c ∷ []) ∷ ps) = grind (arith, cond-map, lowercase-lowercase, front-low, blocks-low ps)
blocks-low ((c ∷ d ∷ p) ∷ ps) = blocks-low ps

-- identifiers

module _ (test : Text → Bool) (same : (p : Text) → test (lower p) ≡ test p) where
  take-low : (ps : List Text) → take_first test (low ps) ≡ option_map lower (take_first test ps)
  take-low [] = refl
  take-low (p ∷ ps) = grind (arith, cond-map)

  skip-low : (ps : List Text) → skip_first test (low ps) ≡ low (skip_first test ps)
  skip-low [] = refl
  skip-low (p ∷ ps) = cond-map low _ _ (same p) refl refl

  before_key-low : (ps : List Text) → before_key test (low ps) ≡ low (before_key test ps)
  before_key-low [] = refl
  before_key-low (p ∷ ps) = grind (arith, cond-map, before_key-low ps)

  fields_from-low : (ps : List Text) →
      fields_from test (low ps) ≡ map (λ f. (lower f.0, low f.1)) (fields_from test ps)
  fields_from-low [] = refl
  fields_from-low (p ∷ ps) = grind (arith, cond-map, before_key-low, fields_from-low ps)

first-low : (ps : List Text) → first_piece (low ps) ≡ lower (first_piece ps)
unfolding lower
first-low [] = refl
first-low (p ∷ ps) = refl

rest-low : (ps : List Text) → rest_of (low ps) ≡ low (rest_of ps)
rest-low [] = refl
rest-low (p ∷ ps) = refl

pub identifier_of-low : (ps : List Text) → identifier_of (low ps) ≡ lower_identifier (identifier_of ps)
unfolding identifier_of
identifier_of-low ps = simp (rest-low, skip-low, is_word-lower, take-low, first-low)

-- parts

abbrev pub low_fields : Fields → Fields
low_fields fs = map (λ f. (lower f.0, low f.1)) fs

abbrev pub low_extension : Extension → Extension
low_extension (unicode u) =
    unicode (record { attributes = low u.attributes; keywords = low_fields u.keywords })
low_extension (transform m) =
    transform (record { id = option_map lower_identifier m.id; fields = low_fields m.fields })
low_extension (other ps) = other (low ps)

optional_of-low : (ps : List Text) → optional_of (low ps) ≡ option_map lower_identifier (optional_of ps)
optional_of-low [] = refl
optional_of-low (p ∷ ps) = ap Some (identifier_of-low (p ∷ ps))

unicode_of-low : (ps : List Text) →
    unicode (unicode_of (low ps)) ≡ low_extension (unicode (unicode_of ps))
unfolding unicode_of
unicode_of-low ps = simp (before_key-low, fields_from-low, length-lower)

extension_of-low : (c : ℕ) (ps : List Text) → extension_of c (low ps) ≡ low_extension (extension_of c ps)
unfolding transform_of
extension_of-low c ps = grind (
  arith,
  unicode_of-low,
  before_key-low,
  is_word-lower,
  optional_of-low,
  fields_from-low,
)

abbrev pub low_entries : List (ℕ × Extension) → List (ℕ × Extension)
low_entries es = map (λ e. (to_ascii_lowercase e.0, low_extension e.1)) es

extensions_in-low : (bs : List Block) →
    extensions_in (map low_block bs) ≡ low_entries (extensions_in bs)
extensions_in-low [] = refl
extensions_in-low (b ∷ bs) =
    grind (arith, cond-map, lowercase-lowercase, extension_of-low, extensions_in-low bs)

private_in-low : (bs : List Block) →
    private_in (map low_block bs) ≡ option_map low_block (private_in bs)
private_in-low [] = refl
private_in-low (b ∷ bs) = grind (arith, cond-map, lowercase-lowercase, private_in-low bs)

abbrev pub low_written : Written → Written
low_written w = record {
  id = lower_identifier w.id;
  extensions = low_entries w.extensions;
  private = option_map low_block w.private;
}

head-low : (ps : List Text) → head (low ps) ≡ low (head ps)
head-low [] = refl
head-low (p ∷ ps) = ap (λ l. lower p ∷ l) (front-low ps)

tail_blocks-low : (ps : List Text) → tail_blocks (low ps) ≡ map low_block (tail_blocks ps)
tail_blocks-low [] = refl
tail_blocks-low (p ∷ ps) = blocks-low ps

pub written_of-low : (ps : List Text) → written_of (low ps) ≡ low_written (written_of ps)
unfolding written_of
written_of-low ps = rw (head-low, identifier_of-low, tail_blocks-low, extensions_in-low, private_in-low)

-- pieces

onto-low : (c : ℕ) (ps : List Text) →
    onto_first (to_ascii_lowercase c) (map (map to_ascii_lowercase) ps)
    ≡ map (map to_ascii_lowercase) (onto_first c ps)
onto-low c [] = refl
onto-low c (p ∷ ps) = refl

split-low : (t : Text) →
    slice_split (λ b. b == 45) (map to_ascii_lowercase t)
    ≡ map (map to_ascii_lowercase) (slice_split (λ b. b == 45) t)
split-low [] = refl
split-low (c ∷ t) = grind (arith, cond-map, onto-low, nat_tests, split-low t)

pub pieces-lower : (t : Text) → pieces (lower t) ≡ low (pieces t)
unfolding pieces lower
pieces-lower t = split-low t

-- the rules and the meaning don't see the case

words-low : (k : Kind) (ps : List Text) → list_all (is_word k) (low ps) ≡ list_all (is_word k) ps
words-low k ps = search (list_all-mapped, is_word-lower)

option-low : {X : Type 0} (test : X → Bool) (f : X → X) → ((x : X) → test (f x) ≡ test x) → (o : Option X) →
    holds_if_some test (option_map f o) ≡ holds_if_some test o
option-low test f e None = refl
option-low test f e (Some x) = e x

pub is_identifier-low : (T : LanguageLengths) (i : SpelledIdentifier) →
    is_identifier T (lower_identifier i) ≡ is_identifier T i
is_identifier-low T i = simp (is_word-lower, option-low, words-low, lower_twice)

abbrev low_field : Field → Field
low_field f = (lower f.0, low f.1)

is_keyword-low : (f : Field) → is_keyword (low_field f) ≡ is_keyword f
is_keyword-low f = simp (is_word-lower, words-low)

is_some-low : (o : Option SpelledIdentifier) → is_some (option_map lower_identifier o) ≡ is_some o
is_some-low None = refl
is_some-low (Some i) = refl

kept-low : (ps : List Text) → kept (low ps) ≡ kept ps
kept-low [] = refl
kept-low (p ∷ ps) = grind (arith, cond-map, is_word-lower, ap₂, lower-lower, kept-low ps)

is_extension-low : (T : LanguageLengths) (c : ℕ) (e : Extension) →
    is_extension T c (low_extension e) ≡ is_extension T c e
is_extension-low T c (unicode u) = grind (arith, ap₂, words-low, list_all-mapped, is_keyword-low, length-map)
is_extension-low T c (transform m) = grind (
  arith,
  ap₂,
  option-low,
  is_identifier-low,
  list_all-mapped,
  is_some-low,
  is_word-lower,
  words-low,
  length-map,
)
is_extension-low T c (other ps) = grind (arith, ap₂, list_all-mapped, length-lower, kept-low)

-- the rules of a whole text as one test

abbrev is_entry : (ℕ → Bool) → ℕ × Extension → Bool
is_entry T e = is_extension T (lower_singleton e) e.1

abbrev is_private_block : Block → Bool
is_private_block e = (lower_singleton e == code_x) && is_private e.1

abbrev is_written : (ℕ → Bool) → Written → Bool
is_written T w = (is_identifier T w.id && list_all (is_entry T) w.extensions)
    && (all_different nat_cmp (map (λ e. lower_singleton e) w.extensions)
    && holds_if_some is_private_block w.private)

tests_written : (T : LanguageLengths) (w : Written) → Tests (is_written T w) (IsWritten T w)
tests_written T w = tests_like
    (grind arith)
    (λ (h : IsWritten T w). ((h.id, h.extensions), (h.different, h.private)))
    (tests_and
    (tests_and (tests_identifier T w.id) (tests_all (is_entry T) (λ e. IsExtension T (lower_singleton e) e.1)
    (λ e. tests_extension T (lower_singleton e) e.1) w.extensions))
    (tests_and (tests_different nat_cmp _)
    (tests_if_some is_private_block (λ e. (lower_singleton e ≡ code_x) × IsPrivate e.1)
    (λ e. tests_and (tests_nat (lower_singleton e) code_x) (tests_private e.1)) w.private)))

abbrev pub low_entry : ℕ × Extension → ℕ × Extension
low_entry e = (to_ascii_lowercase e.0, low_extension e.1)

is_written-low : (T : LanguageLengths) (w : Written) → is_written T (low_written w) ≡ is_written T w
is_written-low T w =
    let entries = list_all-mapped (is_entry T) low_entry (is_entry T)
    (search (lowercase-lowercase, is_extension-low)) w.extensions in
    let singletons = map-then (λ (e : ℕ × Extension). lower_singleton e) low_entry (λ e. lower_singleton e)
    (λ e. lowercase-lowercase e.0) w.extensions in
    grind (arith, option-low, lowercase-lowercase, words-low, length-map, is_identifier-low)

-- meanings

entries-low : (fs : Fields) →
    map {B = Field} (λ f. (lower f.0, normal_values f.1)) (low_fields fs)
    ≡ map (λ f. (lower f.0, normal_values f.1)) fs
entries-low fs = search (map-then, lower-lower, lower_twice)

unicode_part-low : (o : Option Extension) → unicode_part (option_map low_extension o) ≡ unicode_part o
unicode_part-low (Some (unicode u)) = rw (lower_twice, entries-low)
unicode_part-low _ = refl

transform_part-low : (o : Option Extension) → transform_part (option_map low_extension o) ≡ transform_part o
transform_part-low (Some (transform m)) = λ i. record {
  id = option_map-then normal_identifier lower_identifier normal_identifier normal-lower_identifier m.id i;
  fields = map_of word_cmp (entries-low m.fields i);
}
transform_part-low _ = refl

find-low : (q : ℕ) (es : List (ℕ × Extension)) →
    find nat_cmp q (by_singleton (low_entries es))
    ≡ option_map low_extension (find nat_cmp q (by_singleton es))
find-low q [] = refl
find-low q (e ∷ es) = grind (arith, cond-map, lowercase-lowercase, find-low q es)

other_part-low : (c d : ℕ) (x : Extension) → c ≡ d → other_part (c, low_extension x) ≡ other_part (d, x)
other_part-low c d (other ps) e = λ i. Some (e i, kept-low ps i)
other_part-low c d _ e = refl

others-low : (es : List (ℕ × Extension)) →
    filter_map other_part (by_singleton (low_entries es)) ≡ filter_map other_part (by_singleton es)
others-low [] = refl
others-low (e ∷ es) = grind (arith, other_part-low, lowercase-lowercase, others-low es)

private_part-low : (x : Option Block) → private_part (option_map low_block x) ≡ private_part x
private_part-low None = refl
private_part-low (Some e) = lower_twice e.1

meaning-low : (w : Written) → meaning (low_written w) ≡ meaning w
meaning-low w =
    simp (
      normal-lower_identifier,
      find-low,
      unicode_part-low,
      transform_part-low,
      private_part-low,
      others-low,
    )

-- texts that are equal without case mean the same
pub case_means : (T : LanguageLengths) → AreLengths T → (t u : Text) (M : Locale) → lower t ≡ lower u →
    TreeMeans T t M → TreeMeans T u M
case_means T table t u M e m =
    let v = m.written in
    let w = written_of (pieces u) in
    let v_is : written_of (pieces t) ≡ v =
    grind (arith, written_of-spelling) in
    let same : low_written v ≡ low_written w = cc (
      v_is,
      written_of-low (pieces t),
      pieces-lower t,
      e,
      pieces-lower u,
      written_of-low (pieces u),
    ) in
    record {
      written = w;
      grammatical = (tests_written T w).holds (cc (
        is_written-low T w,
        same,
        is_written-low T v,
        (tests_written T v).passes m.grammatical,
      ));
      spelled = pieces-written_of u;
      means = m.means ∙ sym (meaning-low v) ∙ ap meaning same ∙ meaning-low w;
    }

-- a step keeps each meaning of a text
pub text_step_means : (T : LanguageLengths) → AreLengths T → (t u : Text) (M : Locale) → TreeTextStep T t u →
    TreeMeans T t M → TreeMeans T u M
text_step_means T table t u M (TreeTextStep.letter_case e) m = case_means T table t u M e m
text_step_means T table t u M (TreeTextStep.rewritten {v = v} {w = w} h e s) m =
    subst (TreeMeans T (join (spelling w)))
    (search one_meaning)
    (step_means T t h e s)

-- and doesn't lengthen it
pub text_step_length : (T : LanguageLengths) (t u : Text) → TreeTextStep T t u → length u ≤ length t
text_step_length T t u (TreeTextStep.letter_case e) = grind (arith, length-lower)
text_step_length T t u (TreeTextStep.rewritten h e s) = step_length t e s
