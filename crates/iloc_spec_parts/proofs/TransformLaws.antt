-- The reader of what comes after `t`: the longest front of an identifier, and fields.
use Rattle.std.proofs.Common.{◌≡◌, ◌↔◌, ℕ, ◌<◌, ◌≤◌, Bool, true, false, ◌&&◌, ◌||◌, nat_lt, List, [], ◌∷◌, ◌++◌, length, take, drop, length-append, map, refl, sym, ap, ◌∙◌, arith, Option, Some, None, IfSome, is_some, option_to_list, true≢false, append_assoc, le_antisymm, Result, MatchResult}
use Rattle.std.specs.List.{AllByRecursion, list_all}
use Rattle.std.proofs.lemmas.Bool.{cond_both, false_from_ne_true, eqb-true}
use Rattle.std.proofs.lemmas.List.{map-append, take-append-le, take-append-drop}
use Rattle.std.proofs.Math.Seq.{take-append_seam, drop-append_seam}
use Rattle.iloc_spec_grammar.specs.Syntax.{LanguageLengths, Field, code_t, Text, Language, Script, Region, Variant, TransformKey, Attribute, is_word, IsWord, AreLengths, lower, word_cmp, SpelledIdentifier, Transform, Fields, identifier_pieces, optional_pieces, fields_pieces, HasWords, IsIdentifier, IsField, first_piece, front}
use Rattle.iloc_spec_grammar.specs.Tree.{transform, IsTransformBlock}
use Rattle.iloc_spec_grammar.specs.Meaning.{Fault, RepeatsVariant}
use Rattle.iloc_spec_grammar.specs.ByBlocks.{TransformMeans}
use Rattle.iloc_spec_grammar.specs.Reading.{IdentifierFront, EndsBefore, starts_block, from_block, front_of, identifier_of}
use Rattle.iloc_spec_grammar.proofs.WordsLaws.{length-language, region_no_script, length-transform_key}
use Rattle.iloc_spec_grammar.proofs.ValuesLaws.{all_weaker, all_both}
use Rattle.iloc_spec_grammar.proofs.IdentifierLaws.{pieces-identifier_of, one_identifier}
use Rattle.iloc_spec_grammar.proofs.Readings.{IsLong, IsNoKey, after_language, long_after_language, long_extension, identifier_no_key, language_no_key, fields_pass, fields_read}
use Rattle.iloc_spec_grammar.proofs.ReadingLaws.{front_is_front, front-from_block, from_block_starts}
use Rattle.iloc_spec_grammar.proofs.FaultLaws.{some_repeat, front_variants, after_variants, front_are_variants, front_longest, read_longer, cut_identifier, repeats_longer, language_of, script_of, region_of, spell_cut}
use Rattle.iloc_spec_grammar.specs.Computing.{all_different, is_field}
use Rattle.iloc_spec_grammar.proofs.RuleTests.{Tests, tests_not, tests_and, tests_all, tests_field, tests_needed, tests_different}
use Rattle.iloc_spec_parts.specs.Readers.{IsReader, AgreesWithBlocks}
use Rattle.iloc_spec_parts.specs.Fronts.{FrontRead, absent, present, is_field_piece, fields_front, after_fields, TransformRead, TransformFault, repeats, unread, fields_at, fields_result, transform_result}
use Rattle.iloc_spec_parts.proofs.FieldLaws.{all_from_pieces, front_of_fields, fields_stop, pieces_pass}
use Rattle.iloc_spec_parts.proofs.FrontLaws.{not_attribute}
use Rattle.iloc_spec_parts.proofs.ReaderLaws.{reader_of, agreeing, until_block, Answers}
use Rattle.std.proofs.Math.Bool.{or-true}

-- two lists of one whole

same_fronts : (xs ys a b : List Text) → xs ++ a ≡ ys ++ b → length xs ≡ length ys → (xs ≡ ys) × (a ≡ b)
same_fronts xs ys a b e l = (
  sym (take-append_seam xs a) ∙ (λ i. take (l i) (e i)) ∙ take-append_seam ys b,
  sym (drop-append_seam xs a) ∙ (λ i. drop (l i) (e i)) ∙ drop-append_seam ys b,
)

-- two fronts of one list

abbrev NoFirst : (Text → Type 0) → List Text → Type 0
NoFirst P [] = Unit {0}
NoFirst P (p ∷ ps) = ¬ (P p)

not_longer : (P : Text → Type 0) (xs ys a b : List Text) → xs ++ a ≡ ys ++ b → AllByRecursion P ys →
    NoFirst P a → length ys ≤ length xs
not_longer P [] [] a b e h n = omega arith
not_longer P [] (y ∷ ys) [] b e h n = absurd (cc)
not_longer P [] (y ∷ ys) (p ∷ a) b e h n = grind arith
not_longer P (x ∷ xs) [] a b e h n = omega arith
not_longer P (x ∷ xs) (y ∷ ys) a b e h n =
    let tails : xs ++ a ≡ ys ++ b = cc in let l = not_longer P xs ys a b tails h.1 n in omega arith

-- the longest front of an identifier is one

pub front_language : {T : ℕ → Bool} (ps : List Text) (i : SpelledIdentifier) (rest : List Text) →
    HasWords T i → ps ≡ identifier_pieces i ++ rest → IsWord (Language T) (first_piece ps)
front_language {T = T} ps i rest h e = grind arith

pub one_longest : {T : ℕ → Bool} (ps : List Text) (i j : SpelledIdentifier) (rest more : List Text) →
    IdentifierFront T ps i rest → IdentifierFront T ps j more → (i ≡ j) × (rest ≡ more)
one_longest ps i j rest more a b = grind (arith, same_fronts, le_antisymm, one_identifier)

pub one_front : {T : ℕ → Bool} (ps : List Text) {o q : Option SpelledIdentifier}
    {rest more : List Text} →
    FrontRead T ps o rest → FrontRead T ps q more → (o ≡ q) × (rest ≡ more)
one_front ps (absent e) (absent k) = (refl, refl)
one_front ps (absent e) (present g b) = grind (arith, true≢false, front_language)
one_front ps (present h a) (absent k) = grind (arith, true≢false, front_language)
one_front ps (present h a) (present g b) = let same = one_longest ps _ _ _ _ a b in (ap Some same.0, same.1)

-- the reading from the left is a longest front

left_longest : (l : Text) (s r : Option Text) (vs more : List Text) → IfSome s (IsWord Script) →
    IfSome r (IsWord Region) → AllByRecursion (IsWord Variant) vs →
    length (l ∷ (option_to_list s ++ (option_to_list r ++ vs)))
    ≤ length (identifier_pieces
    (cut_identifier (identifier_of ((l ∷ (option_to_list s ++ (option_to_list r ++ vs))) ++ more))))
unfolding identifier_of
left_longest l None None [] more hs hr hv = omega arith
left_longest l (Some s) None [] more hs hr hv = rw hs (omega arith)
left_longest l None (Some r) [] more hs hr hv = rw (region_no_script r hr, hr) (omega arith)
left_longest l (Some s) (Some r) [] more hs hr hv = rw (hs, hr) (omega arith)
left_longest l s r (v ∷ vs) more hs hr hv = grind (
  arith,
  cut_identifier,
  front_variants,
  read_longer,
  front_longest,
  append_assoc,
  length-append,
)

left_front : (T : LanguageLengths) (p : Text) (ps : List Text) → IsWord (Language T) p →
    IdentifierFront T (p ∷ ps) (cut_identifier (identifier_of (p ∷ ps)))
    (after_variants (identifier_of (p ∷ ps)).variants)
left_front T p ps h = grind (
  arith,
  language_of,
  script_of,
  region_of,
  front_are_variants,
  spell_cut,
  pieces-identifier_of,
  cut_identifier,
  left_longest,
)

no_repeats : {T : ℕ → Bool} (ps : List Text) (j : SpelledIdentifier) (rest : List Text) →
    IsIdentifier T j → IdentifierFront T ps j rest → RepeatsVariant T ps → ⊥
no_repeats [] j rest h f r = let e = r.3 in absurd (cc)
no_repeats {T = T} (p ∷ ps) j rest h f r =
    let left = left_front T p ps (front_language (p ∷ ps) j rest f.words f.spelled) in
    let same = one_longest (p ∷ ps) j _ rest _ f left in
    grind (arith, repeats_longer, front_variants, front_longest, some_repeat, map-append)

-- fields

abbrev is_key : Text → Bool
is_key p = is_word TransformKey p

fields_are : (ps : List Text) (fs : Fields) → AllByRecursion IsField fs →
    fields_front ps ≡ fields_pieces fs → fields_at ps ≡ fs
fields_are ps fs h e = grind (arith, fields_read, fields_pass)

fields_test : (o : Option SpelledIdentifier) (fs : Fields) →
    Tests (list_all is_field fs && (is_some o || nat_lt 0 (length fs)))
    (AllByRecursion IsField fs × (o ≡ None → 0 < length fs))
fields_test o fs = search (tests_and, tests_all, tests_field, tests_needed)

-- what is read is determined

one_transform : (T : LanguageLengths) (ps : List Text) (v w : Transform) (rest more : List Text) →
    TransformRead T ps v rest → TransformRead T ps w more → (v ≡ w) × (rest ≡ more)
one_transform T ps v w rest more a b =
    let fronts = one_front ps a.id b.id in
    let fields : a.written.fields ≡ b.written.fields =
    sym (fields_are a.middle a.written.fields a.fields a.spelled) ∙ ap fields_at fronts.1
    ∙ fields_are b.middle b.written.fields b.fields b.spelled in search

pub read_no_repeats : {T : ℕ → Bool} (ps : List Text) {o : Option SpelledIdentifier}
    {rest : List Text} →
    FrontRead T ps o rest → RepeatsVariant T ps → ⊥
read_no_repeats ps (absent e) r = grind (arith, front_language)
read_no_repeats ps (present h f) r = no_repeats ps _ _ h f r

transform_apart : (T : LanguageLengths) (ps : List Text) (m : Transform) (rest : List Text) (f : Fault) →
    TransformRead T ps m rest → TransformFault T ps f → ⊥
transform_apart T ps m rest f h (repeats r) = read_no_repeats ps h.id r
transform_apart T ps m rest f h (unread n u) = u m rest h

one_transform_fault : (T : LanguageLengths) (ps : List Text) (f g : Fault) → TransformFault T ps f →
    TransformFault T ps g → f ≡ g
one_transform_fault T ps f g (repeats r) (unread n u) = absurd (n r)
one_transform_fault T ps f g (unread n u) (repeats q) = absurd (n q)
one_transform_fault T ps f g _ _ = refl

-- and what the program gives

abbrev pub IsTransformAnswer : (ℕ → Bool) → List Text → Result (Transform × List Text) Fault → Type 0
IsTransformAnswer T ps o = MatchResult o (λ r. TransformRead T ps r.0 r.1) (TransformFault T ps)

pub fields_answer : {T : ℕ → Bool} (ps : List Text) (o : Option SpelledIdentifier)
    (middle : List Text) →
    FrontRead T ps o middle → IsTransformAnswer T ps (fields_result o middle)
fields_answer {T = T} ps o middle h =
    cond_both (list_all is_field (fields_at middle) && (is_some o || nat_lt 0 (length (fields_at middle)))) _
    _ (IsTransformAnswer T ps)
    (λ w.
    let rules = (fields_test o (fields_at middle)).holds w in
    record {
      written = record { id = o; fields = fields_at middle };
      middle = middle;
      id = h;
      fields = rules.0;
      spelled = front_of_fields is_key is_field_piece middle;
      nonempty = rules.1;
      means = refl;
      left = refl;
    })
    (λ n. unread (λ r. read_no_repeats ps h r) (λ m rest r.
    let fronts = one_front ps r.id h in
    let fields : r.written.fields ≡ fields_at middle =
    grind (arith, fields_are) in
    tests_not (fields_test o (fields_at middle)) n (
      rw fields at r.fields,
      λ e. rw fields at (r.nonempty (fronts.0 ∙ e)),
    )))

pub no_empty_language : {T : ℕ → Bool} → AreLengths T → is_word (Language T) [] ≡ false
no_empty_language {T = T} table = grind (arith, false_from_ne_true, length-language)

pub transform_answer : {T : ℕ → Bool} → AreLengths T →
    Answers (TransformRead T) (TransformFault T) (transform_result T)
unfolding transform_result
transform_answer {T = T} table [] = rw (no_empty_language table)
    (fields_answer [] None [] (absent (no_empty_language table)))
transform_answer {T = T} table (p ∷ ps) =
    cond_both (is_word (Language T) p) _ _ (IsTransformAnswer T (p ∷ ps))
    (λ l.
    let taken = front_is_front p ps l in
    cond_both (all_different word_cmp (map lower (front_of (p ∷ ps)).variants)) _ _
    (IsTransformAnswer T (p ∷ ps))
    (λ d. fields_answer (p ∷ ps) _ _
    (present (record { words = taken.words; different = (tests_different word_cmp _).holds d }) taken))
    (λ n. repeats (
    search (tests_not, tests_different)
    )))
    (λ l. fields_answer (p ∷ ps) None (p ∷ ps) (absent l))

pub transform_reader : (T : LanguageLengths) → AreLengths T → IsReader (TransformRead T) (TransformFault T)
transform_reader T table = reader_of (TransformRead T) (TransformFault T) (transform_result T)
    (transform_answer table) (one_transform T) (transform_apart T) (one_transform_fault T)

-- its block

front_parts : {T : ℕ → Bool} (ps : List Text) {o : Option SpelledIdentifier} {rest : List Text} →
    FrontRead T ps o rest → (ps ≡ optional_pieces o ++ rest) × IfSome o (IsIdentifier T)
front_parts ps (absent e) = (refl, tt)
front_parts ps (present h f) = (f.spelled, h)

transform_whole : (T : LanguageLengths) → AreLengths T →
    (ps : List Text) (m : Transform) (rest : List Text) → TransformRead T ps m rest →
    starts_block rest ≡ true → TransformMeans T (front ps) m × (rest ≡ from_block ps)
transform_whole T table ps m rest h s =
    let o = optional_pieces h.written.id in
    let fs = fields_pieces h.written.fields in
    let front_is = front_parts ps h.id in
    let middle : h.middle ≡ fs ++ rest =
    grind (arith, all_from_pieces) in
    let all : ps ≡ (o ++ fs) ++ rest = grind (arith, append_assoc) in
    let g : IsTransformBlock T h.written =
    search in
    let ends =
    until_block (o ++ fs) rest (long_extension T table code_t (transform h.written) (refl, g)) s in
    grind arith

-- pieces that no identifier goes on with
abbrev IsInside : Text → Type 0
IsInside p = IsNoKey p × IsLong p

pub no_key_empty : is_word TransformKey [] ≡ false
unfolding is_word
no_key_empty = refl

fields_end : (fs : Fields) (rest : List Text) → AllByRecursion IsField fs → starts_block rest ≡ true →
    NoFirst IsInside (fields_pieces fs ++ rest)
fields_end [] [] h e = tt
fields_end [] (p ∷ ps) h e = λ x. true≢false (sym e ∙ x.1)
fields_end (f ∷ fs) rest h e = λ x. true≢false (sym h.0.0 ∙ x.0)

longest_until : {T : ℕ → Bool} (i j : SpelledIdentifier) (rest more : List Text) → HasWords T j →
    NoFirst IsInside rest → identifier_pieces i ++ rest ≡ identifier_pieces j ++ more →
    length (identifier_pieces j) ≤ length (identifier_pieces i)
longest_until i j rest more w n e = grind (
  arith,
  after_language,
  not_longer,
  all_both,
  identifier_no_key,
  long_after_language,
)

rest_stops : (rest : List Text) → starts_block rest ≡ true →
    EndsBefore is_key rest × EndsBefore is_field_piece rest
rest_stops [] e = (tt, tt)
rest_stops (p ∷ ps) e = grind (arith, eqb-true, false_from_ne_true, length-transform_key, not_attribute)

pub transform_spelled : {T : ℕ → Bool} → (ps rest : List Text) (m : Transform) → TransformMeans T ps m →
    starts_block rest ≡ true → TransformRead T (ps ++ rest) m rest
transform_spelled {T = T} ps rest m h e = rw (← (sym (ap (λ l. l ++ rest) h.spelled
    ∙ append_assoc (optional_pieces h.written.id) (fields_pieces fs) rest))) (record {
      written = h.written;
      middle = fields_pieces fs ++ rest;
      id = front_is h.written.id g.id g.nonempty;
      fields = g.fields;
      spelled = stop.0;
      nonempty = g.nonempty;
      means = h.means;
      left = sym stop.1;
    })
  where
    fs : Fields
    fs = h.written.fields

    g : IsTransformBlock T h.written
    g = h.grammatical

    no_language : (fs : Fields) → AllByRecursion IsField fs → 0 < length fs →
        is_word (Language T) (first_piece (fields_pieces fs ++ rest)) ≡ false
    no_language [] f n = absurd (omega arith)
    no_language (f ∷ fs) k n = false_from_ne_true _ (λ l. true≢false (sym k.0.0 ∙ language_no_key T f.0 l))

    front_is : (o : Option SpelledIdentifier) → IfSome o (IsIdentifier T) → (o ≡ None → 0 < length fs) →
        FrontRead T (optional_pieces o ++ (fields_pieces fs ++ rest)) o (fields_pieces fs ++ rest)
    front_is None i n = absent (no_language fs g.fields (n refl))
    front_is (Some i) w n = present w (record {
      words = w.words;
      spelled = refl;
      longest =
          λ j more v q. longest_until i j (fields_pieces fs ++ rest) more v (fields_end fs rest g.fields e) q;
    })

    goes_on : (f : Field) → IsField f →
        (is_field_piece f.0 ≡ true) × AllByRecursion (λ p. is_field_piece p ≡ true) f.1
    goes_on f r = (
      ap (λ b. b || is_word Attribute f.0) r.0,
      all_weaker (IsWord Attribute) (λ p. is_field_piece p ≡ true)
          (λ p w. ap (λ b. is_word TransformKey p || b) w ∙ or-true (is_word TransformKey p)) f.1 r.1,
    )

    stop : (fields_front (fields_pieces fs ++ rest) ≡ fields_pieces fs)
        × (after_fields (fields_pieces fs ++ rest) ≡ rest)
    stop = fields_stop is_key is_field_piece fs rest
        (pieces_pass is_field_piece fs (all_weaker IsField
        (λ f. (is_field_piece f.0 ≡ true) × AllByRecursion (λ p. is_field_piece p ≡ true) f.1) goes_on fs
        g.fields))
        (all_weaker IsField (λ f. is_key f.0 ≡ true) (λ f r. r.0) fs g.fields) (rest_stops rest e).1
        (rest_stops rest e).0 no_key_empty

transform_block : (T : LanguageLengths) (ps : List Text) (m : Transform) → TransformMeans T (front ps) m →
    TransformRead T ps m (from_block ps)
transform_block T ps m h = rw (front-from_block ps) at (transform_spelled (front ps) (from_block ps) m h
    (from_block_starts ps))

pub transform_agrees : (T : LanguageLengths) → AreLengths T →
    AgreesWithBlocks (TransformRead T) (TransformFault T) (TransformMeans T)
transform_agrees T table = search (agreeing, transform_reader, transform_whole, transform_block)

-- variants that repeat, with and without what follows the block

longer_front : (xs ys a b : List Text) → xs ++ a ≡ ys ++ b → length ys ≤ length xs →
    (c : List Text) × (xs ≡ ys ++ c)
longer_front xs ys a b e l =
    let first : take (length ys) xs ≡ ys =
    sym (take-append-le (length ys) xs a l) ∙ ap (take (length ys)) e ∙ take-append_seam ys b in
    (drop (length ys) xs, grind (arith, take-append-drop))

one_is_short : (rest : List Text) → starts_block rest ≡ true → NoFirst IsLong rest
one_is_short [] e = tt
one_is_short (p ∷ ps) e = λ l. true≢false (sym e ∙ l)

repeats_before : {T : ℕ → Bool} → (ps rest : List Text) → RepeatsVariant T ps →
    RepeatsVariant T (ps ++ rest)
repeats_before ps rest r = (r.0, r.1 ++ rest, r.2, grind (arith, append_assoc), r.4)

-- and what follows a block adds none
pub repeats_in_block : {T : ℕ → Bool} → AreLengths T → (ps rest : List Text) → starts_block rest ≡ true →
    RepeatsVariant T ps ↔ RepeatsVariant T (ps ++ rest)
repeats_in_block {T = T} table ps rest s = (repeats_before ps rest, whole ps)
  where
    no_first : (rest : List Text) → starts_block rest ≡ true → RepeatsVariant T rest → ⊥
    no_first [] s r = let e = r.3 in absurd (cc)
    no_first (p ∷ ps) s r =
        let heads : p ≡ r.0.language = cc (r.3) in
        let l = table.least _ (length-language T p (rw heads r.2.language)) in
        let one = eqb-true (length p) 1 s in
        absurd (omega arith)

    whole : (qs : List Text) → RepeatsVariant T (qs ++ rest) → RepeatsVariant T qs
    whole [] r = absurd (no_first rest s r)
    whole (q ∷ qs) r =
        let tails : qs ++ rest ≡ after_language r.0 ++ r.1 = cc (r.3) in
        let heads : q ≡ r.0.language = cc (r.3) in
        let l = not_longer IsLong qs (after_language r.0) rest r.1 tails (long_after_language r.0 r.2)
        (one_is_short rest s) in
        let found = longer_front qs (after_language r.0) rest r.1 tails l in
        (r.0, found.0, r.2, (λ i. heads i ∷ found.1 i), r.4)

pub repeats_by_block : (T : LanguageLengths) → AreLengths T → (ps : List Text) →
    RepeatsVariant T (front ps) ↔ RepeatsVariant T ps
repeats_by_block T table ps =
    let same = repeats_in_block table (front ps) (from_block ps) (from_block_starts ps) in
    grind (arith, front-from_block)
