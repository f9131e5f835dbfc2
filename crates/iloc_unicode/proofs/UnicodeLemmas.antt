-- Attributes and keywords, read one after the other, and the letter before them.
use Rattle.std.proofs.Common.{◌≡◌, ℕ, suc, ◌+◌, ◌<◌, true, false, ◌&&◌, ◌==◌, List, [], ◌∷◌, length, map, ◌++◌, append-nil, ap₂, refl, sym, ap, ◌∙◌, subst, arith, true≢false, Some, None, Result, Ok, Err}
use Rattle.std.specs.Char.{to_ascii_lowercase}
use Rattle.std.specs.FinMap.{put}
use Rattle.std.specs.FinMap.Entries.{by_order}
use Rattle.std.specs.declared.cmp.Ordering.TheVariants.{Less, Equal, Greater}
use Rattle.std.proofs.lemmas.Bool.{and_parts}
use Rattle.std.proofs.lemmas.Bool.Decides.{nat_tests}
use Rattle.std.proofs.lemmas.List.{length-map}
use Rattle.iloc_spec_grammar.specs.Syntax.{code_u, Text, pieces, lower, word_cmp, Fields, Unicode, fields_pieces}
use Rattle.iloc_spec_grammar.specs.Meaning.{map_of, set_of, normal_fields}
use Rattle.iloc_spec_grammar.specs.Values.{StrictlyAscends}
use Rattle.iloc_spec_grammar.proofs.ValuesLaws.{set_of_ascending}
use Rattle.iloc_spec_parts.specs.Extending.{extend}
use Rattle.iloc_spec_grammar.specs.Reading.{rest_of}
use Rattle.iloc_spec_grammar.specs.Meaning as faults
use Rattle.iloc_spec_parts.specs.Fronts.{attributes_front, after_attributes, attributes_read, keywords_front, KeywordsRead, UnicodeRead, UnicodeFault, in_keywords, both_absent}
use Rattle.iloc_spec_parts.specs.Parts.{begins_part, is_letter, no_singleton, after_singleton, UnicodeText, UnicodeTextFault}
use Rattle.iloc_subtags.specs.declared.parse_error.ParseError.{ParseError}
use Rattle.iloc_subtags.specs.declared.parse_error.ParseError.TheVariants.{InvalidLanguage, InvalidSubtag, InvalidExtension, DuplicatedExtension, OutOfMemory}
use Rattle.iloc_subtags.specs.Judging.{Answers, RunsOutOnlyIf}
use Rattle.iloc_subtags.specs.NextPiece.{byte_at}
use Rattle.iloc_subtags.proofs.ByteLemmas.{byte_first}
use Rattle.iloc_subtags.proofs.Judged.{without_memory, runs_out, with_memory}
use Rattle.iloc_unicode.specs.Reads.{KeywordsFills}
use Rattle.iloc_unicode.specs.UnicodeReads.{UnicodeReads, UnicodeWantsMemory, UnicodeFills, UnicodeTextReads, UnicodeTextWants, for_keywords}
use Rattle.iloc_unicode.specs.UnicodeValue.{value_of}
use Rattle.iloc_unicode.specs.declared.unicode.Unicode as shown
use Rattle.iloc_spec_parts.proofs.SmallShapes.{none_mapped}

-- the letter before the part, by the byte that is taken

swapped : (n : ℕ) → (n == code_u) ≡ (code_u == n)
swapped n = grind (arith, nat_tests)

pub begins_at : (ps : List Text) (b : ℕ) → Some b ≡ byte_at ps →
    (to_ascii_lowercase b == code_u) ≡ begins_part (is_letter code_u) ps
begins_at ps b e = swapped (to_ascii_lowercase b)
    ∙ ap (begins_part (is_letter code_u)) (sym (byte_first ps (rest_of ps) b e refl))

pub begins_nowhere : (ps : List Text) → None ≡ byte_at ps → begins_part (is_letter code_u) ps ≡ false
begins_nowhere [] e = refl
begins_nowhere ([] ∷ ps) e = refl
begins_nowhere ((b ∷ []) ∷ ps) e = cc
begins_nowhere ((b ∷ d ∷ p) ∷ ps) e = refl

-- what is empty

some : (n : ℕ) → (suc n == 0) ≡ false
some n = grind (arith, nat_tests)

module _ {X : Type 0} where
  put_some : (k : Text) (v : X) (es : List (Text × X)) → (length (put word_cmp k v es) == 0) ≡ false
  put_some k v [] = some 0
  put_some k v (e ∷ es) = elim (word_cmp k e.0)
      as (λ r.
      (length (by_order r ((k, v) ∷ e ∷ es) ((e.0, v) ∷ es) (e ∷ put word_cmp k v es)) == 0) ≡ false) [
        | Less ↦ some (suc (length es))
        | Equal ↦ some (length es)
        | Greater ↦ some (length (put word_cmp k v es))
      ]

  no_entries : (es : List (Text × X)) → (length (map_of word_cmp es) == 0) ≡ true → es ≡ []
  no_entries [] h = refl
  no_entries (e ∷ es) h = absurd (true≢false (sym h ∙ put_some e.0 e.1 (map_of word_cmp es)))

no_words : (ws : List Text) → (length (set_of (map lower ws)) == 0) ≡ true → ws ≡ []
no_words ws h = none_mapped lower ws (none_mapped (λ (w : Text). (w, w)) (map lower ws)
    (no_entries _ (ap (λ n. n == 0) (sym (length-map _ _)) ∙ h)))

no_fields : (fs : Fields) → (length (normal_fields fs) == 0) ≡ true → fs ≡ []
no_fields fs h = none_mapped (λ (f : Text × List Text). _) fs (no_entries _ h)

-- what both readers took, where that is something
pub unicode_read : (ps middle rest a : List Text) (m : Fields) → a ≡ attributes_read ps →
    middle ≡ after_attributes ps → KeywordsRead middle m rest → ((length a == 0) && (length m == 0)) ≡ false →
    UnicodeRead ps (record { attributes = a; keywords = m }) rest
unicode_read ps middle rest a m ea em k more = record {
  attributes_are = ea;
  keywords_are = subst (λ (l : List Text). KeywordsRead l m rest) em k;
  nonempty = subst (λ (l : List Text). 0 < length (attributes_front ps) + length (keywords_front l)) em
      (subst (λ (l : List Text). 0 < length (attributes_front ps) + length l) (sym k.spelled)
      (both (attributes_front ps) k.written
      (subst (λ (n : Fields). ((length (attributes_read ps) == 0) && (length n == 0)) ≡ false) k.means
      (subst (λ (b : List Text). ((length b == 0) && (length m == 0)) ≡ false) ea more))));
}
  where
    both : (ws : List Text) (fs : Fields) →
        ((length (set_of (map lower ws)) == 0) && (length (normal_fields fs) == 0)) ≡ false →
        0 < length ws + length (fields_pieces fs)
    both [] [] h = absurd (true≢false h)
    both [] (f ∷ fs) h = omega arith
    both (w ∷ ws) fs h = omega arith

-- nothing was taken
pub unicode_empty : (ps middle rest a : List Text) (m : Fields) → a ≡ attributes_read ps →
    middle ≡ after_attributes ps → KeywordsRead middle m rest → ((length a == 0) && (length m == 0)) ≡ true →
    UnicodeFault ps faults.InvalidExtension
unicode_empty ps middle rest a m ea em k empty =
    let parts = and_parts _ _ empty in
    both_absent (no_words _ (ap (λ (l : List Text). length l == 0) (sym ea) ∙ parts.0))
    (ap keywords_front (sym em) ∙ k.spelled
    ∙ ap fields_pieces (no_fields k.written (ap (λ (l : Fields). length l == 0) (sym k.means) ∙ parts.1)))

-- what is wrong with the keywords is wrong with the whole
pub keywords_refused : (ps middle rest more : List Text) (e : ParseError) → middle ≡ after_attributes ps →
    KeywordsFills middle rest (Err e) → UnicodeFills ps more (Err e)
keywords_refused ps middle rest more InvalidExtension em k =
    in_keywords (subst (λ (l : List Text). KeywordsFills l rest (Err InvalidExtension)) em k)
keywords_refused ps middle rest more OutOfMemory em k =
    for_keywords (subst (λ (l : List Text). KeywordsFills l rest (Err OutOfMemory)) em k)
keywords_refused ps middle rest more InvalidLanguage em k =
    in_keywords (subst (λ (l : List Text). KeywordsFills l rest (Err InvalidLanguage)) em k)
keywords_refused ps middle rest more InvalidSubtag em k =
    in_keywords (subst (λ (l : List Text). KeywordsFills l rest (Err InvalidSubtag)) em k)
keywords_refused ps middle rest more DuplicatedExtension em k =
    in_keywords (subst (λ (l : List Text). KeywordsFills l rest (Err DuplicatedExtension)) em k)

-- what is read, and when memory may run out, together
pub unicode_joined : (ps rest : List Text) (r : Result shown.Unicode ParseError) →
    UnicodeReads ps rest r → RunsOutOnlyIf (UnicodeWantsMemory ps) r → UnicodeFills ps rest r
unicode_joined ps rest =
    with_memory (λ u. UnicodeRead ps (value_of u) rest) (UnicodeFault ps) (UnicodeWantsMemory ps)

-- the letter

same_letter : (c : ℕ) → (code_u == c) ≡ true → code_u ≡ c
same_letter c h = grind (arith, nat_tests)

begins : (ps : List Text) → begins_part (is_letter code_u) ps ≡ true →
    (b : ℕ) × (ps ≡ (b ∷ []) ∷ rest_of ps) × (code_u ≡ to_ascii_lowercase b)
begins [] h = absurd (true≢false (sym h))
begins ([] ∷ ps) h = absurd (true≢false (sym h))
begins ((b ∷ []) ∷ ps) h = (b, refl, same_letter (to_ascii_lowercase b) h)
begins ((b ∷ c ∷ p) ∷ ps) h = absurd (true≢false (sym h))

pub no_letter : (t : Text) → begins_part (is_letter code_u) (pieces t) ≡ false →
    UnicodeTextFault t faults.InvalidExtension
no_letter t h = no_singleton h

-- what is answered to the text, with when memory may run out
abbrev pub TextAnswers : Text → Result shown.Unicode ParseError → Type 0
TextAnswers t = Answers (λ u. UnicodeText t (value_of u)) (UnicodeTextFault t) (UnicodeTextWants t)

pub reads_apart : (t : Text) (r : Result shown.Unicode ParseError) → TextAnswers t r → UnicodeTextReads t r
reads_apart t = without_memory (λ u. UnicodeText t (value_of u)) (UnicodeTextFault t) (UnicodeTextWants t)

pub reads_memory : (t : Text) (r : Result shown.Unicode ParseError) → TextAnswers t r →
    RunsOutOnlyIf (UnicodeTextWants t) r
reads_memory t = runs_out (λ u. UnicodeText t (value_of u)) (UnicodeTextFault t) (UnicodeTextWants t)

pub after_letter : (t : Text) (rest : List Text) (r : Result shown.Unicode ParseError) →
    begins_part (is_letter code_u) (pieces t) ≡ true → UnicodeFills (rest_of (pieces t)) rest r →
    TextAnswers t r
after_letter t rest (Ok u) h g =
    let (b, spelled, same) = begins (pieces t) h in (
      rest,
      record {
        byte = b;
        after = rest_of (pieces t);
        spelled = spelled;
        singleton = same;
        passes = refl;
        reads = g;
      },
    )
after_letter t rest (Err InvalidExtension) h g =
    let (b, spelled, same) = begins (pieces t) h in after_singleton spelled h g
after_letter t rest (Err OutOfMemory) h g = (h, g)
after_letter t rest (Err InvalidLanguage) h g =
    let (b, spelled, same) = begins (pieces t) h in after_singleton spelled h g
after_letter t rest (Err InvalidSubtag) h g =
    let (b, spelled, same) = begins (pieces t) h in after_singleton spelled h g
after_letter t rest (Err DuplicatedExtension) h g =
    let (b, spelled, same) = begins (pieces t) h in after_singleton spelled h g

-- no attribute more
pub none_added : (ws vs : List Text) → StrictlyAscends word_cmp ws → length vs ≡ 0 → ws ≡ set_of (ws ++ vs)
none_added ws [] a n = sym (ap set_of (append-nil ws) ∙ set_of_ascending ws a)
none_added ws (v ∷ vs) a n = absurd (omega (arith, n))

-- and the keywords of both
pub extended_alike : (u v w : Unicode) → StrictlyAscends word_cmp u.attributes → length v.attributes ≡ 0 →
    w.attributes ≡ u.attributes → w.keywords ≡ map_of word_cmp (v.keywords ++ u.keywords) → w ≡ extend u v
extended_alike u v w a n ws fs = ap₂ (λ (ats : List Text) (ks : Fields). pair ats ks)
    (ws ∙ none_added u.attributes v.attributes a n) fs
  where
    pair : List Text → Fields → Unicode
    pair ats ks = record { attributes = ats; keywords = ks }
