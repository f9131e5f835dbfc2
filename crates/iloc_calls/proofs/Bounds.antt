-- How long a normal text is: as an identifier's text, no longer than a locale's, at most four bytes longer
-- than a data locale's.
use Rattle.std.proofs.Common.{◌≡◌, ℕ, ◌+◌, ◌≤◌, length, refl, ap, arith}
use Rattle.std.proofs.lemmas.Bool.Decides.{nat_tests}
use Rattle.iloc_spec_grammar.specs.Syntax.{Text, languages, pieces}
use Rattle.iloc_spec_grammar.specs.Meaning.{IdentifierMeans, Means}
use Rattle.iloc_spec_grammar.specs.Values.{identifier_text, text}
use Rattle.iloc_spec_grammar.proofs.AnySteps.{shortest, length-identifier_means}
use Rattle.iloc_spec_parts.specs.DataLocales.{DataMeans, data_text}
use Rattle.iloc_writeable.specs.Hints.{saturated}
use Rattle.iloc_normalize.specs.declared.Mode.{Mode}
use Rattle.iloc_normalize.specs.declared.Mode.TheVariants.{Langid, Locale, Data}
use Rattle.iloc_calls.specs.declared.status.Status.{Status}
use Rattle.iloc_calls.specs.declared.status.Status.TheVariants.{Done, InvalidLanguage, InvalidSubtag, InvalidExtension, DuplicatedExtension, OutOfMemory, BufferTooSmall, UnknownNumber, NotFound}
use Rattle.iloc_calls.specs.Answers.{NormalizesTo, growth}
use Rattle.iloc_calls.proofs.Lengths.{data_text_fits}
use Rattle.iloc_calls.proofs.AnswerLemmas.{text_of_identifier, text_of_locale, text_of_parts}
use Rattle.iloc_langid.specs.Reads as langid
use Rattle.iloc_langid.specs.declared.identifier.LanguageIdentifier.{LanguageIdentifier}
use Rattle.iloc_locale.specs.LocaleReading as locale
use Rattle.iloc_locale.specs.declared.locale.Locale as types
use Rattle.iloc_data_parts.specs.PartsReading as parts
use Rattle.iloc_data_parts.specs.declared.parts.DataParts.{DataParts}
use Rattle.iloc_normalize.specs.Modes.{IsNormalText}

normal_text_fits : (m : Mode) (t n : Text) → IsNormalText languages m t n → length n ≤ length t + growth m
normal_text_fits Langid t n h =
    let a : length (identifier_text h.0) ≡ length t = length-identifier_means languages t h.0 h.1 in
    let b : length n ≡ length (identifier_text h.0) = ap length h.2 in
    omega (arith, a, b)
normal_text_fits Locale t n h =
    let a : length (text h.0) ≤ length t = shortest languages t h.0 h.1 in
    let b : length n ≡ length (text h.0) = ap length h.2 in
    omega (arith, a, b)
normal_text_fits Data t n h =
    let a : length (data_text h.0) ≤ length t + 4 = data_text_fits t h.0 h.1 in
    let b : length n ≡ length (data_text h.0) = ap length h.2 in
    omega (arith, a, b)

-- so is the text of what was parsed

pub identifier_fits : (t : Text) (i : LanguageIdentifier) →
    IdentifierMeans languages (pieces t) (langid.value_of i) → length (text_of_identifier i) ≤ length t
identifier_fits t i h = let a : length (text_of_identifier i) ≤ length t + 0 =
    normal_text_fits Langid t (text_of_identifier i) (langid.value_of i, h, refl) in
    omega (arith, a)

pub locale_fits : (t : Text) (l : types.Locale) → Means languages t (locale.value_of l) →
    length (text_of_locale l) ≤ length t
locale_fits t l h = let a : length (text_of_locale l) ≤ length t + 0 =
    normal_text_fits Locale t (text_of_locale l) (locale.value_of l, h, refl) in
    omega (arith, a)

pub parts_fit : (t : Text) (p : DataParts) → DataMeans languages t (parts.value_of p) →
    length (text_of_parts p) ≤ length t + 4
parts_fit t p h = normal_text_fits Data t (text_of_parts p) (parts.value_of p, h, refl)

saturated_below : (n : ℕ) → saturated n ≤ n
saturated_below n = grind (arith, nat_tests)

-- so is the room that is asked for
pub needed_fits : (m : Mode) (t before after : Text) (needed : ℕ) (s : Status) →
    NormalizesTo m t before after needed s → needed ≤ length t + growth m
needed_fits m t before after needed Done h =
    let a = normal_text_fits m t h.0 h.1 in let b = h.2.1 in omega (arith, a, b)
needed_fits m t before after needed BufferTooSmall h = let a = normal_text_fits m t h.0 h.1 in
    let b = h.2.1 in let c = saturated_below (length h.0) in omega (arith, a, b, c)
needed_fits m t before after needed InvalidLanguage h = let b = h.1 in omega (arith, b)
needed_fits m t before after needed InvalidSubtag h = let b = h.1 in omega (arith, b)
needed_fits m t before after needed InvalidExtension h = let b = h.1 in omega (arith, b)
needed_fits m t before after needed DuplicatedExtension h = let b = h.1 in omega (arith, b)
needed_fits m t before after needed OutOfMemory h = let b = h.1 in omega (arith, b)
needed_fits m t before after needed UnknownNumber h = let b = h.1 in omega (arith, b)
needed_fits m t before after needed NotFound h = let b = h.1 in omega (arith, b)
