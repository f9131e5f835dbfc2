-- How long the words of a kind are.
use Rattle.std.specs.Prelude.{ℕ, Bool, ◌==◌}
use Rattle.std.specs.Int.{is_in_range}
use Rattle.iloc_spec_grammar.specs.Syntax.{Kind, Language, Script, Region, Variant, Subtag, UnicodeKey}
use Rattle.iloc_spec_grammar.specs.Syntax.{TransformKey, Attribute, PrivateSubtag, SubdivisionSuffix}
use Rattle.iloc_spec_grammar.specs.Syntax.{CurrencyType}

-- whether a word of the kind may have so many bytes
unfoldable pub has_length : Kind → ℕ → Bool
has_length (Language T) n = T n
has_length Script n = n == 4
has_length Region n = is_in_range 2 3 n
has_length Variant n = is_in_range 4 8 n
has_length Subtag n = is_in_range 2 8 n
has_length UnicodeKey n = n == 2
has_length TransformKey n = n == 2
has_length Attribute n = is_in_range 3 8 n
has_length PrivateSubtag n = is_in_range 1 8 n
has_length SubdivisionSuffix n = is_in_range 1 4 n
has_length CurrencyType n = n == 3
