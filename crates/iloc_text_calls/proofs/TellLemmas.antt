-- What is handed out of a normal text is a part of what the text means.
use Rattle.std.proofs.Common.{◌≡◌, ℕ, refl, sym, ◌∙◌, Option, Some, None, inl, inr, take, subst}
use Rattle.iloc_spec_grammar.specs.Syntax.{Text, Identifier, languages, pieces}
use Rattle.iloc_spec_grammar.specs.Meaning as meaning
use Rattle.iloc_spec_grammar.specs.Meaning.{IdentifierMeans, Means, without_extensions}
use Rattle.iloc_spec_grammar.specs.Values.{IsValue, IsWellFormed, text}
use Rattle.iloc_spec_grammar.proofs.Corollaries.{read_well_formed}
use Rattle.iloc_spec_grammar.proofs.IdentifierTexts.{identifier_means_value}
use Rattle.iloc_spec_grammar.proofs.RawLaws.{languages_table}
use Rattle.iloc_spec_grammar.proofs.SameText.{well_formed_is}
use Rattle.iloc_spec_parts.specs.DataLocales.{locale_of_data}
use Rattle.iloc_spec_parts.proofs.DataLaws.{locale_of_data_is_value, locale_of_data_is_well_formed, read_is_data_locale, text_of_data}
use Rattle.iloc_normalize.specs.Modes.{IsNormalText, IsFaulty}
use Rattle.iloc_normalize.specs.declared.Mode.{Mode}
use Rattle.iloc_normalize.specs.declared.Mode.TheVariants.{Langid, Locale, Data}
use Rattle.iloc_normalize.proofs.PlainAnswers.{text_alone, plain_normal}
use Rattle.iloc_calls.specs.Answers.{MeansLocale, Tells}
use Rattle.iloc_calls.specs.declared.status.Status.{Status}
use Rattle.iloc_calls.specs.declared.status.Status.TheVariants.{Done, BufferTooSmall, NotFound, OutOfMemory, InvalidLanguage, InvalidSubtag, InvalidExtension, DuplicatedExtension, UnknownNumber}
use Rattle.iloc_text_parts.specs.declared.Part.{Part}
use Rattle.iloc_text_parts.specs.Parts.{IsPart}
use Rattle.std.specs.Prelude.{⊤, Err}
use Rattle.iloc_subtags.specs.Judging.{Refusal, RunsOutOnlyIf}
use Rattle.iloc_locale.specs.LocaleReading.{NormalizingWantsMemory}
use Rattle.iloc_subtags.specs.declared.parse_error.ParseError.{ParseError}
use Rattle.iloc_subtags.specs.declared.parse_error.ParseError.TheVariants as refusals
use Rattle.iloc_pieces.specs.Plain.{IsPlain}
use Rattle.iloc_pieces.specs.declared.plain.Plain.{Plain}
use Rattle.iloc_calls.specs.Numbers.{status_of}
use Rattle.iloc_text_calls.specs.Answers.{MatchesTo, TellsPart}

-- the locale that a text means in the mode, and whose text the normal text is
pub record HasLocale (mode : Mode) (t n : Text) : Type 0 where
  pub locale : meaning.Locale
  pub meant : MeansLocale mode t locale
  pub well_formed : IsWellFormed locale
  pub is : n ≡ text locale

alone_value : (t : Text) (i : Identifier) → IdentifierMeans languages (pieces t) i
    → IsValue languages (without_extensions i)
alone_value t i m = record {
  id = identifier_means_value (pieces t) i m;
  extensions = record {
    unicode = record { attributes = tt; ascending = tt; keywords = tt; keys_ascend = refl };
    transform = record { id = tt; fields = tt; keys_ascend = refl };
    private = tt;
    others = tt;
  };
}

pub locale_of_normal : (mode : Mode) (t n : Text) → IsNormalText languages mode t n → HasLocale mode t n
locale_of_normal Langid t n (i, m, e) = record {
  locale = without_extensions i;
  meant = (i, m, refl);
  well_formed = (well_formed_is (without_extensions i) (alone_value t i m)).1
      (record { ascending = refl; singletons = tt; nonempty = tt; values = tt });
  is = e ∙ sym (text_alone i);
}
locale_of_normal Locale t n (M, m, e) =
    record { locale = M; meant = m; well_formed = read_well_formed languages_table t M m; is = e }
locale_of_normal Data t n (d, m, e) =
    let h = read_is_data_locale t d m in
    let v = locale_of_data_is_value d h in
    record {
      locale = locale_of_data d;
      meant = (d, m, refl);
      well_formed = (well_formed_is (locale_of_data d) v).1
          ((well_formed_is (locale_of_data d) v).0 (locale_of_data_is_well_formed languages_table d h));
      is = e ∙ sym (text_of_data d);
    }

-- what is told of that locale is told of the text
pub part_told : (mode : Mode) (t n : Text) (part : Part) (o : Option Text) (before after : Text) (needed : ℕ)
    (status : Status)
    → IsNormalText languages mode t n
    → ((M : meaning.Locale) → IsWellFormed M → n ≡ text M → IsPart part M o)
    → Tells o before after needed status
    → TellsPart mode t part before after needed status
part_told mode t n part o before after needed status h p told =
    let l = locale_of_normal mode t n h in
    by status o (p l.locale l.well_formed l.is) told
  where
    by : (status : Status) (o : Option Text) → IsPart part (locale_of_normal mode t n h).locale o
        → Tells o before after needed status → TellsPart mode t part before after needed status
    by Done o q told = let l = locale_of_normal mode t n h in (l.locale, l.meant, (o, q, told))
    by BufferTooSmall o q told = let l = locale_of_normal mode t n h in (l.locale, l.meant, (o, q, told))
    by NotFound o q told = let l = locale_of_normal mode t n h in (l.locale, l.meant, (o, q, told))
    by _ None q told = absurd told
    by _ (Some x) q told = absurd told

-- a plain text begins with its normal text
pub plain_front : (mode : Mode) (t : Text) (p : Plain) → IsPlain t p
    → IsNormalText languages mode t (take p.len p.bytes)
plain_front mode t p h =
    subst (IsNormalText languages mode t) (sym h.words.normal) (plain_normal mode t p h)

-- a refusal of one of two texts, as matching them answers it: memory may run out for that text
abbrev pub RunsOut : Text → ParseError → Type 0
RunsOut t e = RunsOutOnlyIf {X = Text} (NormalizingWantsMemory t) (Err e)

-- a text that is refused
pub text_refused : (t range : Text) (before : ℕ) (e : ParseError) (s : Status)
    → Refusal (IsFaulty languages Locale t) ⊤ e → RunsOut t e → s ≡ status_of e
    → MatchesTo t range before before s
text_refused t range before e s r m is =
    subst (MatchesTo t range before before) (sym is) (by e r m)
  where
    by : (e : ParseError) → Refusal (IsFaulty languages Locale t) ⊤ e → RunsOut t e
        → MatchesTo t range before before (status_of e)
    by refusals.OutOfMemory h m = (inl m, refl)
    by _ h m = (inl h, refl)

-- a range that is refused, after a text that is not
pub range_refused : (t range a : Text) (before : ℕ) (e : ParseError) (s : Status)
    → IsNormalText languages Locale t a → Refusal (IsFaulty languages Locale range) ⊤ e → RunsOut range e
    → s ≡ status_of e → MatchesTo t range before before s
range_refused t range a before e s n r m is =
    subst (MatchesTo t range before before) (sym is) (by e r m)
  where
    by : (e : ParseError) → Refusal (IsFaulty languages Locale range) ⊤ e → RunsOut range e
        → MatchesTo t range before before (status_of e)
    by refusals.OutOfMemory h m = (inr m, refl)
    by _ h m = (inr (a, n, h), refl)
