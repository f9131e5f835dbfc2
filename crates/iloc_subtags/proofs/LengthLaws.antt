-- A word has a length of its kind.
use Rattle.std.specs.Prelude.{◌≡◌, true, length}
use Rattle.std.proofs.Common.{arith}
use Rattle.std.proofs.lemmas.Bool.Decides.{nat_tests}
use Rattle.iloc_spec_grammar.specs.Syntax.{Text, Kind, Language, Script, Region, Variant, Subtag, UnicodeKey, TransformKey, Attribute, PrivateSubtag, SubdivisionSuffix, CurrencyType, is_word, IsWord}
use Rattle.iloc_subtags.specs.Lengths.{has_length}

pub word_has_length : (k : Kind) (p : Text) → IsWord k p → has_length k (length p) ≡ true
unfolding is_word has_length
word_has_length (Language T) p h = grind (arith, nat_tests)
word_has_length Script p h = grind (arith, nat_tests)
word_has_length Region p h = grind (arith, nat_tests)
word_has_length Variant p h = grind (arith, nat_tests)
word_has_length Subtag p h = grind (arith, nat_tests)
word_has_length UnicodeKey p h = grind (arith, nat_tests)
word_has_length TransformKey p h = grind (arith, nat_tests)
word_has_length Attribute p h = grind (arith, nat_tests)
word_has_length PrivateSubtag p h = grind (arith, nat_tests)
word_has_length SubdivisionSuffix p h = grind (arith, nat_tests)
word_has_length CurrencyType p h = grind (arith, nat_tests)
