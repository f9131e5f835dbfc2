-- The fault of a locale, found piece by piece, is that of the grammar.
use Rattle.std.proofs.Common.{◌≡◌, inl, inr, ℕ, Bool, true, false, not, cond, ◌&&◌, List, [], ◌∷◌, length, Option, Some, None, MatchOption, nat_lt, refl, ap, ◌∙◌, arith}
use Rattle.std.specs.List.{list_any, list_all}
use Rattle.std.specs.Ordering.{eq_by_cmp}
use Rattle.std.proofs.lemmas.Bool.{cases_Bool}
use Rattle.iloc_spec_grammar.specs.Syntax.{Text, Language, Variant, TransformKey, Attribute, PrivateSubtag, languages, is_word, word_cmp, is_one_byte, front, blocks}
use Rattle.iloc_spec_grammar.specs.Meaning.{Fault, InvalidLanguage, InvalidSubtag, InvalidExtension}
use Rattle.iloc_spec_grammar.specs.Reading.{transform_of, identifier_of}
use Rattle.iloc_spec_grammar.specs.Computing.{is_transform, is_other, is_private, is_identifier, is_field, first_fault, repeats_variant}
use Rattle.iloc_spec_grammar.proofs.Singletons.{two_more}
use Rattle.iloc_normalize.specs.declared.Mode.TheVariants.{Locale}
use Rattle.iloc_faults.specs.declared.state.Part.TheVariants.{Head, Transform, Source, FieldKey, FieldValue, Unicode, Keyword, Other, OtherWord, Private, PrivateWord}
use Rattle.iloc_faults.specs.declared.state.Stage.{Stage}
use Rattle.iloc_faults.specs.declared.state.Stage.TheVariants as stages
use Rattle.iloc_faults.specs.Next.{plain, started, word_next, outcome}
use Rattle.iloc_faults.proofs.Words.{good, repeats, good_after, repeats_after, good_end, no_next, word_step}
use Rattle.iloc_faults.proofs.Bodies.{one_is_some, of_unicode, has_length, other_is, values, fields, after_value, after_key, after_value_is, after_key_is, after_word, field_is, key_no_language, transform_is, repeats_is, identifier_is}
use Rattle.iloc_faults.proofs.Claims.{Claims, block_answer, transform_answer, head_answer, in_words, Differ, at_end, begins}
use Rattle.iloc_pieces.proofs.RunWords.{and-true}
use Rattle.iloc_pieces.proofs.Tests.{key_no_script, key_no_region, key_no_variant}

many : (vs : List Text) (v : Text) →
    Rattle.iloc_faults.specs.Next.is_new Locale vs v ≡ not (list_any (eq_by_cmp word_cmp v) vs)
many vs v = refl

-- ---- a piece of one byte

at_single : (c : ℕ) {ps : List Text} → Claims ps → Claims ((c ∷ []) ∷ ps)
unfolding transform_of is_word languages
at_single c {ps = ps} at = record {
  keyword = λ seen. begins at c Keyword [] seen refl refl;
  unicode = λ seen. refl;
  other_word = λ seen. begins at c OtherWord [] seen refl refl;
  other = λ seen. refl;
  field_value = λ seen. begins at c FieldValue [] seen refl refl;
  field_key = λ seen. refl;
  source = λ stage vs seen d.
      let g = good_end stage vs d in rw (and-true, g) (begins at c (Source stage) vs seen refl refl);
  transform = λ seen. refl;
  private_word = grind (arith, cases_Bool);
  private = grind (arith, cases_Bool, one_is_some, and-true);
  head = λ stage vs seen d. let g = good_end stage vs d in rw g (begins at c (Head stage) vs seen refl refl);
}

-- ---- a longer one

module _ (p : Text) (ps : List Text) (long : is_one_byte p ≡ false) (passed : blocks (p ∷ ps) ≡ blocks ps)
    (at : Claims ps) where
  longer : front (p ∷ ps) ≡ p ∷ front ps
  longer = rw long refl

  keyword : (seen : List ℕ) →
      outcome Locale (plain seen Keyword) (p ∷ ps)
      ≡ block_answer (list_all of_unicode (front (p ∷ ps))) seen (p ∷ ps)
  keyword seen = grind arith

  unicode : (seen : List ℕ) →
      outcome Locale (plain seen Unicode) (p ∷ ps)
      ≡ block_answer (list_all of_unicode (front (p ∷ ps)) && nat_lt 0 (length (front (p ∷ ps)))) seen
      (p ∷ ps)
  unicode seen = grind (arith, one_is_some, of_unicode, keyword)

  other_word : (seen : List ℕ) →
      outcome Locale (plain seen OtherWord) (p ∷ ps)
      ≡ block_answer (list_all has_length (front (p ∷ ps))) seen (p ∷ ps)
  other_word seen = grind arith

  other : (seen : List ℕ) →
      outcome Locale (plain seen Other) (p ∷ ps) ≡ block_answer (is_other (front (p ∷ ps))) seen (p ∷ ps)
  other seen = grind (arith, longer, other_is, has_length, other_word)

  field_value : (seen : List ℕ) →
      outcome Locale (plain seen FieldValue) (p ∷ ps)
      ≡ block_answer (after_value (front (p ∷ ps))) seen (p ∷ ps)
  field_value seen =
      rw (longer, passed) (rw after_value_is (by (is_word TransformKey p) refl (is_word Attribute p) refl))
    where
      by : (a : Bool) → is_word TransformKey p ≡ a → (b : Bool) → is_word Attribute p ≡ b →
          outcome Locale (plain seen FieldValue) (p ∷ ps)
          ≡ block_answer
          (cond (is_word TransformKey p) (after_key (front ps))
          (is_word Attribute p && after_value (front ps))) seen ps
      by true e b f = rw (long, e) (at.field_key seen)
      by false e true f = rw (long, e, f) (at.field_value seen)
      by false e false f = rw (long, e, f) refl

  field_key : (seen : List ℕ) →
      outcome Locale (plain seen FieldKey) (p ∷ ps) ≡ block_answer (after_key (front (p ∷ ps))) seen (p ∷ ps)
  field_key seen = grind (arith, longer, after_key_is, block_answer, field_value)

  private_word : (seen : List ℕ) →
      outcome Locale (plain seen PrivateWord) (p ∷ ps)
      ≡ cond (list_all (is_word PrivateSubtag) (p ∷ ps)) None (Some InvalidExtension)
  private_word seen = grind arith

  private : (seen : List ℕ) →
      outcome Locale (plain seen Private) (p ∷ ps) ≡ cond (is_private (p ∷ ps)) None (Some InvalidExtension)
  private seen = grind arith

  head : (stage : Stage) (vs : List Text) (seen : List ℕ) → Differ vs →
      outcome Locale (in_words Head stage vs seen) (p ∷ ps)
      ≡ head_answer (good stage vs (front (p ∷ ps))) seen (p ∷ ps)
  head stage vs seen d = rw (longer, passed) (let s = word_step Locale many stage vs p (front ps) d in
      rw s.good_is (by (word_next Locale stage vs p) refl s.keeps))
    where
      by : (o : Option (Stage × List Text)) → word_next Locale stage vs p ≡ o →
          MatchOption o (Unit {0}) (λ w. Differ w.1) →
          outcome Locale (in_words Head stage vs seen) (p ∷ ps)
          ≡ head_answer (good_after o (front ps)) seen ps
      by None e k = rw (long, e) refl
      by (Some w) e k = rw (long, e) (at.head w.0 w.1 seen k)

  -- after `t`, a key ends the identifier
  key_ends : (stage : Stage) (vs : List Text) → Differ vs → is_word TransformKey p ≡ true →
      (after_word stage vs (p ∷ front ps) ≡ after_key (front ps)) × (repeats stage vs (p ∷ front ps) ≡ false)
  key_ends stage vs d e =
      let a = key_no_script p e in
      let b = key_no_region p e in
      let c = key_no_variant p e in
      let n : word_next Locale stage vs p ≡ None = no_next Locale stage vs p a b c in
      let g = good_end stage vs d in
      grind (arith, word_step, many, field_is, repeats_after)

  source : (stage : Stage) (vs : List Text) (seen : List ℕ) → Differ vs →
      outcome Locale (in_words Source stage vs seen) (p ∷ ps)
      ≡ transform_answer (after_word stage vs (front (p ∷ ps))) (repeats stage vs (front (p ∷ ps))) seen
      (p ∷ ps)
  source stage vs seen d = rw (longer, passed) (by (is_word TransformKey p) refl)
    where
      next : (o : Option (Stage × List Text)) → word_next Locale stage vs p ≡ o →
          is_word TransformKey p ≡ false → MatchOption o (Unit {0}) (λ w. Differ w.1) →
          outcome Locale (in_words Source stage vs seen) (p ∷ ps)
          ≡ transform_answer (good_after o (values (front ps)) && list_all is_field (fields (front ps)))
          (repeats_after p o (front ps)) seen ps
      next None n e k = elim (cases_Bool (is_word Variant p))
          [ inl v ↦ rw (long, e, n, v) refl | inr v ↦ rw (long, e, n, v) refl ]
      next (Some w) n e k = rw (long, e, n) (at.source w.0 w.1 seen k)

      by : (a : Bool) → is_word TransformKey p ≡ a →
          outcome Locale (in_words Source stage vs seen) (p ∷ ps)
          ≡ transform_answer (after_word stage vs (p ∷ front ps)) (repeats stage vs (p ∷ front ps)) seen ps
      by true e = let k = key_ends stage vs d e in rw (k.0, k.1) (rw (long, e) (at.field_key seen))
      by false e =
          let s = word_step Locale many stage vs p (values (front ps)) d in
          let r = word_step Locale many stage vs p (front ps) d in
          let g : after_word stage vs (p ∷ front ps)
          ≡ (good_after (word_next Locale stage vs p) (values (front ps))
          && list_all is_field (fields (front ps))) =
          rw e (ap (λ b. b && list_all is_field (fields (front ps))) s.good_is) in
          rw (g, r.repeats_is) (next (word_next Locale stage vs p) refl e s.keeps)

  transform : (seen : List ℕ) →
      outcome Locale (plain seen Transform) (p ∷ ps)
      ≡ transform_answer (is_transform languages (transform_of (front (p ∷ ps))))
      (repeats_variant languages (front (p ∷ ps))) seen (p ∷ ps)
  transform seen = grind (
    arith,
    longer,
    transform_is,
    repeats_is,
    transform_answer,
    after_key,
    after_word,
    repeats,
    key_no_language,
    field_key,
    source,
  )

  pub at_long : Claims (p ∷ ps)
  at_long = grind (
    arith,
    keyword,
    unicode,
    other_word,
    other,
    field_value,
    field_key,
    source,
    transform,
    private_word,
    private,
    head,
  )

-- ---- any pieces

pub claims : (ps : List Text) → Claims ps
claims [] = at_end
claims ([] ∷ ps) = at_long [] ps refl refl (claims ps)
claims ((c ∷ []) ∷ ps) = at_single c (claims ps)
claims ((c ∷ d ∷ p) ∷ ps) = grind (arith, at_long, two_more, claims ps)

-- the fault of a locale
abbrev pub locale_fault : Text → List Text → Option Fault
locale_fault p ps = cond (not (is_word (Language languages) p)) (Some InvalidLanguage)
    (cond (not (is_identifier languages (identifier_of (p ∷ front ps)))) (Some InvalidSubtag)
    (first_fault languages [] (blocks ps)))

pub locale_verdict : (p : Text) (ps : List Text) → outcome Locale started (p ∷ ps) ≡ locale_fault p ps
locale_verdict p ps =
    rw identifier_is (by (is_word (Language languages) p) refl (good stages.Language [] (front ps)) refl)
  where
    by : (a : Bool) → is_word (Language languages) p ≡ a → (b : Bool) → good stages.Language [] (front ps) ≡ b
        → outcome Locale started (p ∷ ps)
        ≡ cond (not (is_word (Language languages) p)) (Some InvalidLanguage)
        (cond (not (is_word (Language languages) p && good stages.Language [] (front ps)))
        (Some InvalidSubtag) (first_fault languages [] (blocks ps)))
    by false e b f = elim (cases_Bool (is_one_byte p)) [ inl o ↦ rw (o, e) refl | inr o ↦ rw (o, e) refl ]
    by true e b f =
        elim (cases_Bool (is_one_byte p)) [ inl o ↦ rw (o, e) (start b f) | inr o ↦ rw (o, e) (start b f) ]
      where
        start : (b : Bool) → good stages.Language [] (front ps) ≡ b →
            outcome Locale (in_words Head stages.Language [] []) ps
            ≡ cond (not (good stages.Language [] (front ps))) (Some InvalidSubtag)
            (first_fault languages [] (blocks ps))
        start true f = rw f ((claims ps).head stages.Language [] [] refl ∙ rw f refl)
        start false f = rw f ((claims ps).head stages.Language [] [] refl ∙ rw f refl)
