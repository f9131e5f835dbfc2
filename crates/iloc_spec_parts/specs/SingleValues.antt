-- Values of one word: what a list of words is read as, if it has one word and no more. The type
-- of `cu` (UTS #35, "Key And Type Definitions") is such a value: an ISO 4217 code of three letters.
use Rattle.std.specs.Prelude.{List, [], ◌∷◌, Option, Some, None, option_and_then}
use Rattle.iloc_spec_grammar.specs.Syntax.{Text, CurrencyType, word}

-- the only word of the list
abbrev pub single : List Text → Option Text
single (w ∷ []) = Some w
single _ = None

-- the currency that the words of `cu` are read as: one word of three letters
abbrev pub currency_reads : List Text → Option Text
currency_reads ws = option_and_then (word CurrencyType) (single ws)

-- the words that a currency is turned into
abbrev pub currency_gives : Text → List Text
currency_gives w = w ∷ []
