-- What is promised of reading a text as an identifier or as a locale: the clauses of the parsers.
use Rattle.std.specs.Prelude.{⊤, Result}
use Rattle.iloc_spec_grammar.specs.Syntax.{Text, Identifier, languages, pieces}
use Rattle.iloc_spec_grammar.specs.Meaning as meaning
use Rattle.iloc_spec_grammar.specs.Meaning.{IdentifierMeans, Means, Fault, HasIdentifierFault, HasFault}
use Rattle.iloc_subtags.specs.declared.parse_error.ParseError.{ParseError}
use Rattle.iloc_subtags.specs.Judging.{Accepts, Refuses, RunsOutOnlyIf}
use Rattle.iloc_langid.specs.declared.identifier.LanguageIdentifier.{LanguageIdentifier}
use Rattle.iloc_langid.specs.Reads.{value_of as identifier_of, IdentifierReads, IdentifierWantsMemory}
use Rattle.iloc_locale.specs.declared.locale.Locale.{Locale}
use Rattle.iloc_locale.specs.LocaleReading.{value_of as locale_of, LocaleTextAnswers}

-- Of an identifier: each clause of its parser that says what comes of the text.
pub record IsIdentifierAnswer (t : Text) (r : Result LanguageIdentifier ParseError) : Type 0 where
  pub reads : IdentifierReads (pieces t) r
  pub accepted : (i : Identifier) → IdentifierMeans languages (pieces t) i
      → Accepts identifier_of ⊤ i r
  pub refused : (f : Fault) → HasIdentifierFault languages (pieces t) f → Refuses ⊤ f r
  pub memory : RunsOutOnlyIf (IdentifierWantsMemory (pieces t)) r

-- Of a locale: each clause of its parser that says what comes of the text; `reads` says also when
-- memory may run out.
pub record IsLocaleAnswer (t : Text) (r : Result Locale ParseError) : Type 0 where
  pub reads : LocaleTextAnswers t r
  pub accepted : (M : meaning.Locale) → Means languages t M → Accepts locale_of ⊤ M r
  pub refused : (f : Fault) → HasFault languages t f → Refuses ⊤ f r
