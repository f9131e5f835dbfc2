-- Worked examples are shown on texts.
use Rattle.std.specs.Prelude.{Bool, Result, Ok, Err}
use Rattle.iloc_spec_grammar.specs.Syntax.{Text, LanguageLengths}
use Rattle.iloc_spec_grammar.specs.Meaning.{Locale, Fault}
use Rattle.iloc_spec_grammar.specs.Values.{text}
use Rattle.iloc_spec_grammar.specs.Computing.{locale_result}
use Rattle.iloc_spec_parts.specs.Examples.{meaning_of}
use Rattle.iloc_spec_parts.specs.DataLocales.{data_text}
use Rattle.iloc_spec_parts.specs.Preferences.{Preferences, preferences, is_strict, language_priority}
use Rattle.iloc_spec_parts.specs.Preferences.{region_priority, locale_of_preferences}

-- the preferences of what the text means, if it is a locale
abbrev pub preferences_of : Text → Preferences
preferences_of t = preferences (meaning_of t)

-- whether they are strict, and the two data locales
abbrev pub conversions_of : Result Locale Fault → Result (Bool × Text × Text) Fault
conversions_of (Ok M) = Ok (
  is_strict M,
  data_text (language_priority (preferences M)),
  data_text
      (region_priority (preferences M)),
)
conversions_of (Err f) = Err f

abbrev pub conversions : LanguageLengths → Text → Result (Bool × Text × Text) Fault
conversions T t = conversions_of (locale_result T t)

-- the text of the locale that preferences become
abbrev pub text_of_preferences : Preferences → Text
text_of_preferences p = text (locale_of_preferences p)
