-- Worked examples are shown on texts.
use Rattle.std.specs.Prelude.{Option, None, Result, Ok, Err, codes}
use Rattle.iloc_spec_grammar.specs.Syntax.{Text}
use Rattle.iloc_spec_grammar.specs.Meaning.{Fault}
use Rattle.iloc_spec_parts.specs.DataLocales.{DataLocale, data_text}

-- the text of what is read
abbrev pub data_text_of : Result DataLocale Fault → Result Text Fault
data_text_of (Ok d) = Ok (data_text d)
data_text_of (Err f) = Err f

-- English with a region and a subdivision as they are stored
abbrev pub english : Option Text → Option Text → DataLocale
english region subdivision = record {
  language = codes "en";
  script = None;
  region = region;
  variant = None;
  subdivision = subdivision;
}
