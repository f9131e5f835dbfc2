-- Texts of words, identifiers and well-formed locales are read as these, and so are their JSON strings.
use Rattle.std.proofs.Common.{◌≡◌, Option, Some, Result, Ok, Err, if◌then◌else◌, refl, sym, ap, ◌∙◌, subst, true, false}
use Rattle.serde_json.specs.Data.{Data, string}
use Rattle.serde_json.specs.Find.{as_str}
use Rattle.iloc_spec_grammar.specs.Syntax.{Text, Kind, read, normal, is_word, languages, pieces}
use Rattle.iloc_spec_grammar.specs.Values.{IsNormal, IsIdentifierValue, IsWellFormed, identifier_text, text}
use Rattle.iloc_spec_grammar.specs.Meaning as faults
use Rattle.iloc_spec_grammar.proofs.IdentifierTexts.{identifier_text_means, identifier_apart}
use Rattle.iloc_spec_grammar.proofs.IdentifierLaws as identifiers
use Rattle.iloc_spec_grammar.proofs.SameFaults.{accepted_no_fault}
use Rattle.iloc_spec_grammar.proofs.SameMeaning.{one_meaning}
use Rattle.iloc_spec_grammar.proofs.RawLaws.{languages_table}
use Rattle.iloc_subtags.specs.declared.parse_error.ParseError.{ParseError}
use Rattle.iloc_subtags.specs.declared.parse_error.ParseError.TheVariants.{InvalidLanguage, InvalidSubtag, InvalidExtension, DuplicatedExtension, OutOfMemory}
use Rattle.iloc_subtags.specs.Judging.{NamesFault, RunsOutOnlyIf}
use Rattle.iloc_langid.specs.declared.identifier.LanguageIdentifier.{LanguageIdentifier}
use Rattle.iloc_langid.specs.Reads.{value_of as identifier_of}
use Rattle.iloc_locale.specs.declared.locale.Locale.{Locale}
use Rattle.iloc_locale.specs.LocaleReading.{value_of as locale_of}
use Rattle.iloc_json.specs.declared.errors.JsonError.{JsonError}
use Rattle.iloc_json.specs.declared.errors.JsonError.TheVariants.{OutOfMemory as NoRoom}
use Rattle.iloc_json.specs.Errors.{json_error}
use Rattle.iloc_json.specs.Answers.{IsIdentifierAnswer, IsLocaleAnswer}
use Rattle.iloc_json.specs.Json.{as_json, SucceedsOr, ReadsText}

normal_read : (k : Kind) (e : ParseError) (w : Text) → IsNormal k w → read k e w ≡ Ok w
normal_read k e w h = ap (λ b. if b then Ok (normal k w) else Err e) h.0 ∙ ap Ok h.1

pub word_back : (k : Kind) (e : ParseError) (w : Text) → IsNormal k w → (r : Result Text ParseError) →
    r ≡ read k e w → SucceedsOr OutOfMemory (λ other. other ≡ w) r
word_back k e w h r is =
    subst (λ (x : Result Text ParseError). SucceedsOr OutOfMemory (λ other. other ≡ w) x)
    (sym (is ∙ normal_read k e w h)) refl

-- a subtag is never refused for want of memory
no_want : (Wants : Type 0) (e : ParseError) → NamesFault e → RunsOutOnlyIf {X = Text} Wants (Err e)
no_want Wants InvalidLanguage h = tt
no_want Wants InvalidSubtag h = tt
no_want Wants InvalidExtension h = tt
no_want Wants DuplicatedExtension h = tt
no_want Wants OutOfMemory h = absurd h

pub word_no_want : (Wants : Type 0) (k : Kind) (e : ParseError) → NamesFault e → (w : Text)
    (r : Result Text ParseError) → r ≡ read k e w → RunsOutOnlyIf Wants r
word_no_want Wants k e h w r is =
    subst (RunsOutOnlyIf Wants) (sym is)
    (elim (is_word k w) as (λ b. RunsOutOnlyIf Wants (if b then Ok (normal k w) else Err e))
    [ true ↦ tt | false ↦ no_want Wants e h ])

pub identifier_back : (i : LanguageIdentifier) → IsIdentifierValue languages (identifier_of i) →
    (r : Result LanguageIdentifier ParseError) → IsIdentifierAnswer (identifier_text (identifier_of i)) r →
    SucceedsOr OutOfMemory (λ other. identifier_of other ≡ identifier_of i) r
identifier_back i h (Ok j) m = identifiers.one_meaning (pieces (identifier_text (identifier_of i)))
    (identifier_of j) (identifier_of i) m.reads (identifier_text_means (identifier_of i) h)
identifier_back i h (Err InvalidLanguage) f =
    absurd (identifier_apart (pieces (identifier_text (identifier_of i))) (identifier_of i)
    faults.InvalidLanguage (identifier_text_means (identifier_of i) h) f.reads)
identifier_back i h (Err InvalidSubtag) f =
    absurd (identifier_apart (pieces (identifier_text (identifier_of i))) (identifier_of i)
    faults.InvalidSubtag (identifier_text_means (identifier_of i) h) f.reads)
identifier_back i h (Err InvalidExtension) f =
    absurd (identifier_apart (pieces (identifier_text (identifier_of i))) (identifier_of i)
    faults.InvalidExtension (identifier_text_means (identifier_of i) h) f.reads)
identifier_back i h (Err DuplicatedExtension) f =
    absurd (identifier_apart (pieces (identifier_text (identifier_of i))) (identifier_of i)
    faults.DuplicatedExtension (identifier_text_means (identifier_of i) h) f.reads)
identifier_back i h (Err OutOfMemory) f = refl

pub locale_back : (l : Locale) → IsWellFormed (locale_of l) → (r : Result Locale ParseError) →
    IsLocaleAnswer (text (locale_of l)) r → SucceedsOr OutOfMemory (λ other. locale_of other ≡ locale_of l) r
locale_back l h (Ok k) m =
    one_meaning languages_table (text (locale_of l)) (locale_of k) (locale_of l) m.reads h
locale_back l h (Err InvalidLanguage) f = absurd
    (accepted_no_fault languages_table (text (locale_of l)) (locale_of l) faults.InvalidLanguage h f.reads)
locale_back l h (Err InvalidSubtag) f = absurd
    (accepted_no_fault languages_table (text (locale_of l)) (locale_of l) faults.InvalidSubtag h f.reads)
locale_back l h (Err InvalidExtension) f = absurd
    (accepted_no_fault languages_table (text (locale_of l)) (locale_of l) faults.InvalidExtension h f.reads)
locale_back l h (Err DuplicatedExtension) f = absurd (accepted_no_fault languages_table (text (locale_of l))
    (locale_of l) faults.DuplicatedExtension h f.reads)
locale_back l h (Err OutOfMemory) f = refl

as_json_back : {X : Type 0} (same : X → Type 0) (x : Result X ParseError) → SucceedsOr OutOfMemory same x →
    SucceedsOr NoRoom same (as_json x)
as_json_back same (Ok x) h = h
as_json_back same (Err e) h = ap json_error h

pub json_back : {X : Type 0} (reads : Text → Result X ParseError → Type 0) (same : X → Type 0)
    (t : Text) →
    ((x : Result X ParseError) → reads t x → SucceedsOr OutOfMemory same x) → (d : Data) → d ≡ string t →
    (r : Result X JsonError) → ReadsText reads (as_str d) r → SucceedsOr NoRoom same r
json_back {X} reads same t back d is r h =
    let k : ReadsText reads (Some t) r =
    subst (λ (o : Option Text). ReadsText reads o r) (ap as_str is) h in
    subst (λ (y : Result X JsonError). SucceedsOr NoRoom same y) (sym k.2)
    (as_json_back same k.0 (back k.0 k.1))
