-- The modes: what a text may be read as, and what its normal text and its fault then are.
use Rattle.std.specs.Prelude.{◌≡◌, codes}
use Rattle.iloc_spec_grammar.specs.Syntax.{Text, LanguageLengths, pieces, Identifier}
use Rattle.iloc_spec_grammar.specs.Meaning.{Means, IdentifierMeans, Fault, HasIdentifierFault, HasFault}
use Rattle.iloc_spec_grammar.specs.Meaning as grammar
use Rattle.iloc_spec_grammar.specs.Values.{identifier_text, text}
use Rattle.iloc_spec_parts.specs.DataLocales.{DataLocale, DataMeans, HasDataFault, data_text}
use Rattle.iloc_normalize.specs.declared.Mode.{Mode}
use Rattle.iloc_normalize.specs.declared.Mode.TheVariants.{Langid, Locale, Data}

-- The word that names a mode. This library's rule.
abbrev pub word_of : Mode → Text
word_of Langid = codes "langid"
word_of Locale = codes "locale"
word_of Data = codes "data"

-- In the mode, the text is the normal text of what the line means.
abbrev pub IsNormalText : LanguageLengths → Mode → Text → Text → Type 0
IsNormalText T Langid line t = (i : Identifier) × IdentifierMeans T (pieces line) i
    × (t ≡ identifier_text i)
IsNormalText T Locale line t = (M : grammar.Locale) × Means T line M × (t ≡ text M)
IsNormalText T Data line t = (d : DataLocale) × DataMeans T line d × (t ≡ data_text d)

-- The line means nothing in the mode, and has this fault.
abbrev pub IsFaulty : LanguageLengths → Mode → Text → Fault → Type 0
IsFaulty T Langid line f = HasIdentifierFault T (pieces line) f
IsFaulty T Locale line f = HasFault T line f
IsFaulty T Data line f = HasDataFault T line f
