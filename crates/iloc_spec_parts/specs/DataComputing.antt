-- A plain program for data locales: what a text means, or the fault.
use Rattle.std.specs.Prelude.{Result, Ok, Err, ok_or}
use Rattle.iloc_spec_grammar.specs.Syntax.{Text, LanguageLengths}
use Rattle.iloc_spec_grammar.specs.Meaning.{Fault, InvalidExtension}
use Rattle.iloc_spec_parts.specs.Small.{SmallLocale}
use Rattle.iloc_spec_parts.specs.SmallComputing.{small_result}
use Rattle.iloc_spec_parts.specs.DataLocales.{DataLocale, data_of_small}

-- The data locale of a small locale, or the fault.
abbrev pub data_of_result : Result SmallLocale Fault → Result DataLocale Fault
data_of_result (Ok r) = ok_or (data_of_small r) InvalidExtension
data_of_result (Err f) = Err f

-- The data locale that a text means, or its fault.
unfoldable pub data_result : LanguageLengths → Text → Result DataLocale Fault
data_result T t = data_of_result (small_result T t)
