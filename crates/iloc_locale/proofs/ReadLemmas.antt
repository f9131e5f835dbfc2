-- From what the readers of the head and of the blocks answer to what the whole text is read as.
use Rattle.std.specs.Prelude.{⊤}
use Rattle.std.proofs.Common.{◌≡◌, inl, inr, ℕ, ◌<◌, true, List, [], ◌∷◌, length, refl, sym, ap, ◌∙◌, subst, arith, Result, Ok, Err, IfOk}
use Rattle.std.specs.Result.{result_and}
use Rattle.iloc_spec_grammar.specs.Syntax.{Text, pieces, Language, IsWord, languages, two_or_three, identifier_pieces, head, blocks, tail_blocks, first_piece}
use Rattle.iloc_spec_grammar.specs.Meaning as meaning
use Rattle.iloc_spec_grammar.specs.Meaning.{IdentifierMeans, Means, BlocksMean, Fault, HasFault, HasBlockFault, in_head, in_block, SpellsIdentifier}
use Rattle.iloc_spec_grammar.specs.Values.{IsWellFormed, TextStep, Leads}
use Rattle.iloc_spec_grammar.specs.Reading.{rest_of, front_of, after_head, starts_block}
use Rattle.iloc_spec_grammar.proofs.RawLaws.{languages_table}
use Rattle.iloc_spec_grammar.proofs.SameMeaning.{one_meaning}
use Rattle.iloc_spec_grammar.proofs.SameFaults.{accepted_no_fault, one_fault, first_of_head}
use Rattle.iloc_spec_grammar.proofs.Corollaries.{read_well_formed}
use Rattle.iloc_spec_grammar.proofs.WiderTables.{means_ours}
use Rattle.iloc_spec_grammar.proofs.AnySteps.{chain_means}
use Rattle.iloc_spec_grammar.proofs.ReadingLaws.{from_block_starts, front_of-pieces}
use Rattle.iloc_spec_parts.specs.Inline.{IsInline, ReachesLongBlock}
use Rattle.iloc_spec_parts.proofs.InlineBlockLaws.{inline_by_blocks, none_long}
use Rattle.iloc_subtags.specs.declared.parse_error.ParseError.{ParseError}
use Rattle.iloc_subtags.specs.declared.parse_error.ParseError.TheVariants.{InvalidLanguage, InvalidSubtag, InvalidExtension, DuplicatedExtension, OutOfMemory}
use Rattle.iloc_langid.specs.declared.identifier.LanguageIdentifier.{LanguageIdentifier}
use Rattle.iloc_langid.specs.Reads as langid
use Rattle.iloc_langid.specs.Reads.{IdentifierReads}
use Rattle.iloc_extensions.specs.ExtensionsValue as extensions
use Rattle.iloc_extensions.specs.Whole.{BlocksReads}
use Rattle.iloc_pieces.specs.Front.{HasNoLanguage}
use Rattle.iloc_normalize.specs.declared.Mode.TheVariants as modes
use Rattle.iloc_normalize.proofs.FrontAnswers.{no_language_refused}
use Rattle.iloc_normalize.proofs.PlainAnswers.{means_alone}
use Rattle.iloc_extensions.proofs.RoundLaws.{blocks-from_block}
use Rattle.iloc_locale.specs.declared.locale.Locale.{Locale}
use Rattle.iloc_locale.specs.LocaleReading.{value_of, unknown_locale, LocaleWantsMemory, LocaleTextReads, LocaleTextAnswers}
use Rattle.iloc_subtags.specs.Judging.{Accepts, Refuses, RunsOutOnlyIf}
use Rattle.iloc_subtags.proofs.Judged.{Judges, accepts, refuses, without_memory, runs_out, with_memory}

-- the head and the blocks after it

tail_is : (ps : List Text) → blocks (after_head ps) ≡ tail_blocks ps
tail_is [] = refl
tail_is (p ∷ ps) = blocks-from_block ps

pub after_head_starts : (ps : List Text) → starts_block (after_head ps) ≡ true
after_head_starts ps = from_block_starts (rest_of ps)

pub head_accepts : (t : Text) (id : LanguageIdentifier) (e : meaning.Extensions) →
    IdentifierReads (head (pieces t)) (Ok id) → BlocksMean languages (blocks (after_head (pieces t))) e →
    Means languages t (record { id = langid.value_of id; extensions = e })
head_accepts t id e h b =
    record { id = h; extensions = subst (λ bs. BlocksMean languages bs e) (tail_is (pieces t)) b }

-- where no memory is wanted

head_few : (t : Text) → IsInline languages t → 4 < length (front_of (head (pieces t))).variants → ⊥
head_few t i h =
    let w = i.means.written in
    let e : head (pieces t) ≡ identifier_pieces w = i.means.spelled in
    let few = (inline_by_blocks languages languages_table t i).variants w i.means.grammatical e in
    let k : length (front_of (head (pieces t))).variants ≡ length w.variants =
    ap (λ ps. length (front_of ps).variants) e
    ∙ ap (λ j. length j.variants) (front_of-pieces w i.means.grammatical.words) in
    omega (arith, few, k, h)

pub inline_wants_none : (t : Text) → IsInline languages t → LocaleWantsMemory t → ⊥
inline_wants_none t i (inl x) = head_few t i x.1
inline_wants_none t i (inr x) = none_long x.1 (inline_by_blocks languages languages_table t i).short_blocks

-- and it is wanted only after a language
pub wants_language : (t : Text) → LocaleWantsMemory t → IsWord (Language languages) (first_piece (pieces t))
wants_language t (inl x) = subst (λ p. IsWord (Language languages) p) (first_of_head (pieces t)) x.0
wants_language t (inr x) = subst (λ p. IsWord (Language languages) p)
    (sym (ap first_piece x.0.2) ∙ first_of_head (pieces t)) x.0.1.words.language

pub head_refused : (t : Text) (e : ParseError) → IdentifierReads (head (pieces t)) (Err e) →
    RunsOutOnlyIf {X = Unit {0}} (langid.IdentifierWantsMemory (head (pieces t))) (Err e) →
    LocaleTextAnswers t (Err e)
head_refused t InvalidLanguage h m = in_head h
head_refused t InvalidSubtag h m = in_head h
head_refused t InvalidExtension h m = in_head h
head_refused t DuplicatedExtension h m = in_head h
head_refused t OutOfMemory h m = inl m

spells : (t : Text) (id : LanguageIdentifier) → IdentifierReads (head (pieces t)) (Ok id) →
    SpellsIdentifier languages (head (pieces t))
spells t id h = (h.written, h.grammatical, h.spelled)

blocks_fault : (t : Text) (id : LanguageIdentifier) (f : Fault) →
    IdentifierReads (head (pieces t)) (Ok id) → HasBlockFault languages (blocks (after_head (pieces t))) f →
    HasFault languages t f
blocks_fault t id f h b =
    in_block (spells t id h) (subst (λ bs. HasBlockFault languages bs f) (tail_is (pieces t)) b)

pub blocks_refused : (t : Text) (id : LanguageIdentifier) (x : meaning.Extensions) (e : ParseError) →
    IdentifierReads (head (pieces t)) (Ok id) → BlocksReads (after_head (pieces t)) x (Err e) →
    LocaleTextAnswers t (Err e)
blocks_refused t id x InvalidLanguage h b = blocks_fault t id meaning.InvalidLanguage h b
blocks_refused t id x InvalidSubtag h b = blocks_fault t id meaning.InvalidSubtag h b
blocks_refused t id x InvalidExtension h b = blocks_fault t id meaning.InvalidExtension h b
blocks_refused t id x DuplicatedExtension h b = blocks_fault t id meaning.DuplicatedExtension h b
blocks_refused t id x OutOfMemory h b =
    inr (spells t id h, subst (ReachesLongBlock languages) (tail_is (pieces t)) b)

pub blocks_read : (t : Text) (l : Locale) (r : Result (Unit {0}) ParseError) →
    IdentifierReads (head (pieces t)) (Ok l.id) →
    BlocksReads (after_head (pieces t)) (extensions.value_of l.extensions) r →
    LocaleTextAnswers t (result_and r (Ok l))
blocks_read t l (Ok x) h b = head_accepts t l.id (extensions.value_of l.extensions) h b
blocks_read t l (Err e) h b = blocks_refused t l.id (extensions.value_of l.extensions) e h b

pub none_after_unknown : (l : Locale) → value_of l ≡ unknown_locale →
    extensions.value_of l.extensions ≡ meaning.no_extensions
none_after_unknown l e = ap (λ (M : meaning.Locale). M.extensions) e

-- a plain text: it is an identifier alone
pub plain_means : (t : Text) (l : Locale) → IdentifierMeans languages (pieces t) (langid.value_of l.id) →
    extensions.value_of l.extensions ≡ meaning.no_extensions → Means languages t (value_of l)
plain_means t l m none = subst
    (λ (e : meaning.Extensions). Means languages t (record { id = langid.value_of l.id; extensions = e }))
    (sym none) (means_alone t (langid.value_of l.id) m)

-- a text that begins with no language is refused so
pub no_language_read : (t : Text) (e : ParseError) → (e ≡ InvalidLanguage) × HasNoLanguage t →
    LocaleTextReads t (Err e)
no_language_read t InvalidLanguage (is, h) = no_language_refused modes.Locale t h
no_language_read t InvalidSubtag (is, h) = absurd (cc)
no_language_read t InvalidExtension (is, h) = absurd (cc)
no_language_read t DuplicatedExtension (is, h) = absurd (cc)
no_language_read t OutOfMemory (is, h) = absurd (cc)

-- what else is known of what is read

-- memory apart

pub reads_apart : (t : Text) (r : Result Locale ParseError) → LocaleTextAnswers t r → LocaleTextReads t r
reads_apart t r h = without_memory (λ (l : Locale). Means languages t (value_of l)) (HasFault languages t)
    (LocaleWantsMemory t) r h

pub reads_memory : (t : Text) (r : Result Locale ParseError) → LocaleTextAnswers t r →
    RunsOutOnlyIf (LocaleWantsMemory t) r
reads_memory t r h =
    runs_out (λ (l : Locale). Means languages t (value_of l)) (HasFault languages t) (LocaleWantsMemory t) r h

pub reads_answer : (t : Text) (r : Result Locale ParseError) → LocaleTextReads t r →
    RunsOutOnlyIf (LocaleWantsMemory t) r → LocaleTextAnswers t r
reads_answer t r h m = with_memory (λ (l : Locale). Means languages t (value_of l)) (HasFault languages t)
    (LocaleWantsMemory t) r h m

pub reads_well_formed : (t : Text) (r : Result Locale ParseError) → LocaleTextReads t r →
    IfOk r (λ l. IsWellFormed (value_of l))
reads_well_formed t (Ok l) h = read_well_formed languages_table t (value_of l) h
reads_well_formed t (Err e) h = tt

pub reads_steps : (t : Text) (r : Result Locale ParseError) → LocaleTextReads t r →
    IfOk r (λ l. (n : ℕ) (u : Text) → Leads (TextStep languages) n t u → Means languages u (value_of l))
reads_steps t (Ok l) h = λ n u c. chain_means languages languages_table n t u (value_of l) c h
reads_steps t (Err e) h = tt

pub locales_judge : (t : Text) → Judges (Means languages t) (HasFault languages t)
locales_judge t = record {
  one = one_meaning languages_table t;
  apart = accepted_no_fault languages_table t;
  one_fault = λ f g. one_fault t;
}

pub reads_accepts : (t : Text) (r : Result Locale ParseError) → LocaleTextReads t r → (M : meaning.Locale) →
    Means languages t M → Accepts value_of ⊤ M r
reads_accepts t r h = accepts value_of ⊤ (locales_judge t) r h

pub reads_refuses : (t : Text) (r : Result Locale ParseError) → LocaleTextReads t r → (f : Fault) →
    HasFault languages t f → Refuses ⊤ f r
reads_refuses t r h = refuses value_of ⊤ (locales_judge t) r h

pub reads_narrow : (t : Text) (r : Result Locale ParseError) → LocaleTextReads t r → (M : meaning.Locale) →
    Means two_or_three t M → Accepts value_of ⊤ M r
reads_narrow t r h M m = reads_accepts t r h M (means_ours t M m)
