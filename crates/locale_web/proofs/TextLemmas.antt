-- What is handed out of a normal text, and of a hint, is told of the text.
use Rattle.std.proofs.Common.{◌≡◌, ◌≢◌, ◌↔◌, ◌⊎◌, ℕ, Bool, IsTrue, refl, sym, subst, Option, Some, None, inr}
use Rattle.std.specs.Int.{from_bool}
use Rattle.iloc_spec_grammar.specs.Syntax.{Text, languages, pieces}
use Rattle.iloc_spec_grammar.specs.Meaning as meaning
use Rattle.iloc_spec_grammar.specs.Values.{IsWellFormed, text}
use Rattle.iloc_subtags.specs.declared.parse_error.ParseError.{ParseError}
use Rattle.iloc_subtags.specs.declared.parse_error.ParseError.TheVariants as refusals
use Rattle.iloc_matching.specs.Range.{Matches}
use Rattle.iloc_normalize.specs.Answered.{HasRefusal}
use Rattle.iloc_normalize.specs.Modes.{IsNormalText}
use Rattle.iloc_normalize.specs.declared.Mode.{Mode}
use Rattle.iloc_normalize.specs.declared.Mode.TheVariants.{Locale}
use Rattle.iloc_text_parts.specs.Parts.{IsPart}
use Rattle.iloc_text_parts.specs.declared.Part.{Part}
use Rattle.iloc_hints.specs.Hints.{HasHint, hint_words}
use Rattle.iloc_hints.specs.declared.hints.Hint.{Hint}
use Rattle.iloc_calls.specs.Answers.{HandsOut, Tells}
use Rattle.iloc_calls.specs.Numbers.{status_of}
use Rattle.iloc_calls.specs.declared.status.Status.{Status}
use Rattle.iloc_calls.specs.declared.status.Status.TheVariants.{Done, BufferTooSmall, OutOfMemory}
use Rattle.iloc_calls.proofs.AnswerLemmas.{number_of_same}
use Rattle.iloc_text_calls.proofs.TellLemmas as lemmas
use Rattle.locale_web.specs.Refused.{HintIsTold}
use Rattle.locale_web.specs.Texts.{MatchIsWritten, PartIsTold}

-- what is told, or not there, is told without memory
told_without : (o : Option Text) (before after : Text) (needed : ℕ) (status : Status)
    → Tells o before after needed status → status ≢ OutOfMemory
told_without None before after needed status told is = subst (Tells None before after needed) is told
told_without (Some x) before after needed status told is = subst (Tells (Some x) before after needed) is told

-- what is told of the locale of a normal text is told of the text
pub part_told : (mode : Mode) (t n : Text) (part : Part) (o : Option Text) (before after : Text) (needed : ℕ)
    (status : Status)
    → IsNormalText languages mode t n
    → ((M : meaning.Locale) → IsWellFormed M → n ≡ text M → IsPart part M o)
    → Tells o before after needed status
    → PartIsTold mode t part before after needed status
part_told mode t n part o before after needed status h p told = (
  lemmas.part_told mode t n part o before after needed status h p told,
  told_without o before after needed status told,
)

-- of a text that is refused nothing is told
pub part_refused : (mode : Mode) (t : Text) (part : Part) (before : Text) (e : ParseError) (s : Status)
    → HasRefusal mode t e → s ≡ status_of e → PartIsTold mode t part before before 0 s
part_refused mode t part before e s r is =
    subst (PartIsTold mode t part before before 0) (sym is) (by e r)
  where
    by : (e : ParseError) → HasRefusal mode t e → PartIsTold mode t part before before 0 (status_of e)
    by refusals.OutOfMemory h = absurd h
    by _ h = ((h, refl, refl), λ d. cc)

-- the words of a hint that is there
pub hint_told : (mode : Mode) (t : Text) (hint : Hint) (before after : Text) (needed : ℕ) (status : Status)
    → HasHint mode t hint → HandsOut (hint_words hint) before after needed status
    → HintIsTold mode t before after needed status
hint_told mode t hint before after needed Done h o = (hint, h, o)
hint_told mode t hint before after needed BufferTooSmall h o = (hint, h, o)
hint_told mode t hint before after needed _ h o = absurd o

-- whether the normal texts match
pub match_told : (t range a b : Text) (before after : ℕ) (same : Bool) → IsNormalText languages Locale t a
    → IsNormalText languages Locale range b → after ≡ from_bool same
    → IsTrue same ↔ Matches (pieces a) (pieces b) → MatchIsWritten t range before after Done
match_told t range a b before after same h k is e = (
  (
    a,
    b,
    h,
    k,
    subst (λ (i : ℕ). ((i ≡ 1) × Matches (pieces a) (pieces b))
        ⊎ ((i ≡ 0) × ¬ (Matches (pieces a) (pieces b)))) (sym is)
        (number_of_same (Matches (pieces a) (pieces b)) same e),
  ),
  λ d. cc,
)

-- a range that is refused, after a text that is not
pub range_refused : (t range a : Text) (before : ℕ) (e : ParseError) (s : Status)
    → IsNormalText languages Locale t a → HasRefusal Locale range e → s ≡ status_of e
    → MatchIsWritten t range before before s
range_refused t range a before e s n r is =
    subst (MatchIsWritten t range before before) (sym is) (by e r)
  where
    by : (e : ParseError) → HasRefusal Locale range e → MatchIsWritten t range before before (status_of e)
    by refusals.OutOfMemory h = absurd h
    by _ h = ((inr (a, n, h), refl), λ d. cc)
