-- What the parser of data locales returns. It allocates nothing. This library's rule.
use Rattle.std.specs.Prelude.{◌≡◌, ⊤, Result, IfOk}
use Rattle.iloc_spec_grammar.specs.Syntax.{Text, languages, two_or_three}
use Rattle.iloc_spec_grammar.specs.Meaning as meaning
use Rattle.iloc_spec_grammar.specs.Meaning.{Means, Fault}
use Rattle.iloc_spec_parts.specs.DataLocales as parts
use Rattle.iloc_spec_parts.specs.DataLocales.{DataMeans, HasDataFault, data_text}
use Rattle.iloc_spec_parts.specs.Preferences.{language_priority, preferences}
use Rattle.iloc_subtags.specs.declared.parse_error.ParseError.{ParseError}
use Rattle.iloc_subtags.specs.Judging.{Answers, Accepts, Refuses, RunsOutOnlyIf}
use Rattle.iloc_data.specs.declared.data_locale.DataLocale.{DataLocale}
use Rattle.iloc_data.specs.DataValue.{value_of}

-- The text is read as the data locale that it means, or refused for its fault.
abbrev pub DataTextReads : Text → Result DataLocale ParseError → Type 0
DataTextReads t = Answers (λ d. DataMeans languages t (value_of d))
    (HasDataFault languages t) ⊤

-- All that is promised of the result on a text: each clause of `try_from_str`.
pub record IsDataAnswer (t : Text) (r : Result DataLocale ParseError) : Type 0 where
  pub reads : DataTextReads t r
  pub accepted : (d : parts.DataLocale) → DataMeans languages t d → Accepts value_of ⊤ d r
  pub refused : (f : Fault) → HasDataFault languages t f → Refuses ⊤ f r
  pub memory : RunsOutOnlyIf ⊥ r
  pub back : IfOk r (λ d. DataMeans languages (data_text (value_of d)) (value_of d))
  pub converted : IfOk r (λ d. (M : meaning.Locale) → Means languages t M
      → value_of d ≡ language_priority (preferences M))
  pub meant : IfOk r (λ d. (M : meaning.Locale) × Means languages t M
      × (value_of d ≡ language_priority (preferences M)))
  pub narrow : (d : parts.DataLocale) → DataMeans two_or_three t d → Accepts value_of ⊤ d r
