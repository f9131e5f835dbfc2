-- An identifier and fields, one after the other.
use Rattle.std.proofs.Common.{◌≡◌, ◌≢◌, inl, inr, ℕ, ◌<◌, ◌==◌, true, false, not, cond, ◌&&◌, ◌||◌, List, [], ◌∷◌, length, nat_lt, refl, sym, ap, ◌∙◌, subst, arith, Option, Some, None, option_map, is_some, Result, Ok, Err, true≢false}
use Rattle.std.specs.List.{list_all}
use Rattle.std.specs.FinMap.{put}
use Rattle.std.specs.FinMap.Entries.{by_order}
use Rattle.std.specs.declared.cmp.Ordering.TheVariants.{Less, Equal, Greater}
use Rattle.std.proofs.lemmas.Bool.{and_parts, not-true}
use Rattle.std.proofs.lemmas.Bool.Decides.{nat_tests}
use Rattle.iloc_spec_grammar.specs.Syntax.{code_t, Text, pieces, Language, is_word, read, lower, languages, word_cmp, TransformKey}
use Rattle.iloc_spec_grammar.specs.Syntax as written
use Rattle.iloc_spec_grammar.specs.Meaning.{normal_identifier, normal_transform, normal_fields, normal_values, Fault}
use Rattle.iloc_spec_grammar.specs.Meaning as faults
use Rattle.iloc_spec_grammar.specs.Reading.{first_item, rest_of, fields_from}
use Rattle.iloc_spec_grammar.specs.Computing.{is_field}
use Rattle.iloc_spec_parts.specs.Fronts.{absent, present, after_fields, TransformRead, TransformFault, repeats, fields_at, fields_result}
use Rattle.iloc_spec_parts.specs.Parts.{is_letter, TransformTextFault}
use Rattle.iloc_spec_parts.proofs.TransformLaws.{fields_answer, IsTransformAnswer}
use Rattle.iloc_other.specs.Singleton.{singleton_at}
use Rattle.iloc_other.proofs.SingletonLemmas.{begins, part_reads, part_fault, part_other, part_none}
use Rattle.iloc_other.proofs.TextLemmas.{another_letter}
use Rattle.iloc_subtags.specs.declared.parse_error.ParseError.{ParseError}
use Rattle.iloc_subtags.specs.declared.parse_error.ParseError.TheVariants.{InvalidLanguage, InvalidSubtag, InvalidExtension, DuplicatedExtension, OutOfMemory}
use Rattle.iloc_langid.specs.Reads.{FrontReads}
use Rattle.iloc_langid.specs.Reads as langid
use Rattle.iloc_langid.specs.declared.identifier.LanguageIdentifier.{LanguageIdentifier}
use Rattle.iloc_transform.specs.FieldsReading.{FieldsRead, FieldsFills}
use Rattle.iloc_transform.specs.LangReading.{LangRead, LangFills}
use Rattle.iloc_subtags.specs.Judging.{RunsOutOnlyIf}
use Rattle.iloc_transform.specs.TransformReading.{value_of, TransformWantsMemory, variants, fields, TransformReads, TransformFills, TransformTextReads, TransformTextWants}
use Rattle.iloc_transform.specs.declared.transform.Transform.{Transform}
use Rattle.iloc_spec_grammar.proofs.ReadWords.{accepted_from_read, refused_from_read}
use Rattle.iloc_langid.proofs.FrontLemmas.{no_empty_language}

-- the identifier

pub no_lang : (ps : List Text) → None ≡ first_item ps → LangRead ps None ps
no_lang [] e = record { written = None; front = absent no_empty_language; means = refl }
no_lang (p ∷ ps) e = cc

pub other_lang : {E : Type 0} (e f : E) (ps : List Text) (p : Text) → Some p ≡ first_item ps →
    Err f ≡ read (Language languages) e p → LangRead ps None ps
other_lang e f [] p i h = cc
other_lang e f (q ∷ ps) p i h = let same : p ≡ q = cc in record {
  written = None;
  front = absent
      (ap (is_word (Language languages)) (sym same) ∙ (refused_from_read (Language languages) e f p h).0);
  means = refl;
}

pub some_lang : (ps rest : List Text) (i : LanguageIdentifier) → FrontReads ps rest (Ok i) →
    LangRead ps (Some i) rest
some_lang ps rest i (FrontReads.front_given w front different means) = record {
  written = Some w;
  front = present (record { words = front.words; different = different }) front;
  means = ap (λ j. Some j) means;
}

-- after a language, what is wrong with the front of an identifier is a repeated variant
pub front_refused : {E : Type 0} (e : E) (w p : Text) (ps rest left : List Text) (f : ParseError) →
    Some p ≡ first_item ps → Ok w ≡ read (Language languages) e p → FrontReads ps rest (Err f) →
    LangFills ps left (Err f)
front_refused e w p [] rest left f i h g = cc
front_refused e w p (q ∷ ps) rest left InvalidLanguage i h (FrontReads.front_lacks_language g) =
    let same : p ≡ q = cc in
    absurd (true≢false
    (sym (accepted_from_read (Language languages) e p w h).0 ∙ ap (is_word (Language languages)) same ∙ g))
front_refused e w p (q ∷ ps) rest left InvalidSubtag i h
    (FrontReads.front_repeats v {more = more} front twice) =
    (refl, (v, more, front.words, front.spelled, twice))
front_refused e w p (q ∷ ps) rest left InvalidExtension i h g = elim g [ ]
front_refused e w p (q ∷ ps) rest left DuplicatedExtension i h g = elim g [ ]
front_refused e w p (q ∷ ps) rest left OutOfMemory i h
    (FrontReads.front_wants_memory v {more = more} front five) =
    record { written = v; rest = more; front = front; many = five }

-- fields that mean none are none

put_some : (k : Text) (v : List Text) (es : written.Fields) → length (put word_cmp k v es) ≡ 0 → ⊥
put_some k v [] e = absurd (omega (arith, e))
put_some k v (e ∷ es) h = elim (word_cmp k e.0)
    as (λ o. length (by_order o ((k, v) ∷ e ∷ es) ((e.0, v) ∷ es) (e ∷ put word_cmp k v es)) ≡ 0 → ⊥) [
      | Less ↦ λ z. absurd (omega (arith, z))
      | Equal ↦ λ z. absurd (omega (arith, z))
      | Greater ↦ λ z. absurd (omega (arith, z))
    ] h

pub no_fields : (fs : written.Fields) → length (normal_fields fs) ≡ 0 → fs ≡ []
no_fields [] e = refl
no_fields (f ∷ fs) e = absurd (put_some (lower f.0) (normal_values f.1) (normal_fields fs) e)

-- all of it

module _ (ps middle : List Text) (lang : Option LanguageIdentifier) (l : LangRead ps lang middle) where
  some_written : {X Y : Type 0} (f : X → Y) (o : Option X) → is_some (option_map f o) ≡ is_some o
  some_written f None = refl
  some_written f (Some x) = refl

  -- there is an identifier where one is written
  same_some : is_some lang ≡ is_some l.written
  same_some =
      sym (some_written langid.value_of lang) ∙ ap is_some l.means ∙ some_written normal_identifier l.written

  -- the program's answer
  answer : (f : Fault) → fields_result l.written middle ≡ Err f → TransformFault languages ps f
  answer f e = subst (IsTransformAnswer languages ps) e (fields_answer ps l.written middle l.front)

  pub whole : (m : written.Fields) (rest : List Text) → FieldsRead middle m rest →
      (not (is_some lang) && (length m == 0)) ≡ false →
      TransformRead languages ps (record { id = option_map langid.value_of lang; fields = m }) rest
  whole m rest r n = record {
    written = record { id = l.written; fields = r.written };
    middle = middle;
    id = l.front;
    fields = r.fields;
    spelled = r.spelled;
    nonempty =
        λ e. some r.written r.means (ap (λ b. not b && (length m == 0)) (sym (same_some ∙ ap is_some e)) ∙ n);
    means = λ i. record { id = l.means i; fields = r.means i };
    left = r.left;
  }
    where
      some : (fs : written.Fields) → m ≡ normal_fields fs → (length m == 0) ≡ false → 0 < length fs
      some [] e h = absurd (true≢false (sym (ap (λ l. length l == 0) e) ∙ h))
      some (f ∷ fs) e h = omega arith

  pub nothing : (m : written.Fields) (rest : List Text) → FieldsRead middle m rest →
      (not (is_some lang) && (length m == 0)) ≡ true → TransformFault languages ps faults.InvalidExtension
  nothing m rest r n =
      let parts = and_parts (not (is_some lang)) (length m == 0) n in
      let none : is_some l.written ≡ false = sym same_some ∙ not-true (is_some lang) parts.0 in
      let empty : fields_at middle ≡ [] = ap (fields_from (is_word TransformKey)) (r.spelled
      ∙ ap written.fields_pieces
      (no_fields r.written (ap length (sym r.means) ∙ zero_is (length m) parts.1))) in
      answer faults.InvalidExtension
      (λ i. cond (list_all is_field (empty i) && (none i || nat_lt 0 (length (empty i))))
      (Ok (normal_transform (record { id = l.written; fields = empty i }), after_fields middle))
      (Err faults.InvalidExtension))
    where
      zero_is : (n : ℕ) → (n == 0) ≡ true → n ≡ 0
      zero_is n h = grind (arith, nat_tests)

  pub lacking : list_all is_field (fields_at middle) ≡ false →
      TransformFault languages ps faults.InvalidExtension
  lacking e = answer faults.InvalidExtension
      (λ i. cond (e i && (is_some l.written || nat_lt 0 (length (fields_at middle))))
      (Ok (normal_transform (record { id = l.written; fields = fields_at middle }), after_fields middle))
      (Err faults.InvalidExtension))

  pub bad_fields : (f : ParseError) (rest left : List Text) → FieldsFills middle rest (Err f) →
      TransformFills ps left (Err f)
  bad_fields InvalidExtension rest left r = lacking r.1
  bad_fields OutOfMemory rest left r = fields l.front r
  bad_fields InvalidLanguage rest left r = let other = r.0 in cc
  bad_fields InvalidSubtag rest left r = let other = r.0 in cc
  bad_fields DuplicatedExtension rest left r = let other = r.0 in cc

pub no_transform : (ps rest left : List Text) (f : ParseError) → LangFills ps rest (Err f) →
    TransformFills ps left (Err f)
no_transform ps rest left InvalidSubtag r = repeats r.1
no_transform ps rest left OutOfMemory r = variants r
no_transform ps rest left InvalidLanguage r = let other = r.0 in cc
no_transform ps rest left InvalidExtension r = let other = r.0 in cc
no_transform ps rest left DuplicatedExtension r = let other = r.0 in cc

-- a text

module _ (t : Text) where
  pub text_none : None ≡ singleton_at (pieces t) → TransformTextFault languages t faults.InvalidExtension
  text_none e = part_none (is_letter code_t) (pieces t) (TransformFault languages) e

  pub text_other : (c : ℕ) → Some c ≡ singleton_at (pieces t) → c ≢ code_t →
      TransformTextFault languages t faults.InvalidExtension
  text_other c e n =
      part_other (is_letter code_t) (pieces t) (TransformFault languages) c e (another_letter code_t c n)

  module _ (found : Some code_t ≡ singleton_at (pieces t)) (more rest : List Text)
      (after : more ≡ rest_of (pieces t)) where
    fault : (f : Fault) → TransformFault languages more f → TransformTextFault languages t f
    fault f h = part_fault (is_letter code_t) (pieces t) (TransformFault languages) code_t f found refl
        (subst (λ l. TransformFault languages l f) after h)

    pub text_reads : (r : Result Transform ParseError) → TransformReads more rest r → TransformTextReads t r
    text_reads (Ok m) h = (
      rest,
      part_reads (is_letter code_t) (pieces t) (TransformRead languages) code_t (value_of m) rest found refl
          (subst (λ l. TransformRead languages l (value_of m) rest) after h),
    )
    text_reads (Err InvalidSubtag) h = fault faults.InvalidSubtag h
    text_reads (Err InvalidExtension) h = fault faults.InvalidExtension h
    text_reads (Err OutOfMemory) h = tt
    text_reads (Err InvalidLanguage) h = fault faults.InvalidLanguage h
    text_reads (Err DuplicatedExtension) h = fault faults.DuplicatedExtension h

    pub text_memory : (r : Result Transform ParseError) → RunsOutOnlyIf (TransformWantsMemory more) r →
        RunsOutOnlyIf (TransformTextWants t) r
    text_memory (Ok m) h = tt
    text_memory (Err InvalidLanguage) h = tt
    text_memory (Err InvalidSubtag) h = tt
    text_memory (Err InvalidExtension) h = tt
    text_memory (Err DuplicatedExtension) h = tt
    text_memory (Err OutOfMemory) h =
        (begins (is_letter code_t) (pieces t) code_t found, subst TransformWantsMemory after h)
