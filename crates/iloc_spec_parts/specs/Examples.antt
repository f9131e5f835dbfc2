-- Worked examples are shown on texts.
use Rattle.iloc_spec_grammar.specs.Syntax.{Text, pieces}
use Rattle.iloc_spec_grammar.specs.Meaning.{Locale}
use Rattle.iloc_spec_grammar.specs.Tree.{meaning}
use Rattle.iloc_spec_grammar.specs.Reading.{written_of}

-- What the text means, if it is a locale.
abbrev pub meaning_of : Text → Locale
meaning_of t = meaning (written_of (pieces t))
