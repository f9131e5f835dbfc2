-- By computing each.
use Rattle.std.proofs.Common.{arith}
use Rattle.iloc_spec_grammar.specs.Syntax.{pieces, join, is_word, lower, upper, title, is_true, languages}
use Rattle.iloc_spec_grammar.specs.Values.{extensions_spelling}
use Rattle.iloc_spec_grammar.specs.Reading.{written_of, unicode_of, transform_of, identifier_of}
use Rattle.iloc_spec_grammar.specs.Computing.{locale_result}
use Rattle.iloc_spec_parts.proofs.preferences.by_example.Goals as goal

pub returns : goal.returns
unfolding extensions_spelling locale_result written_of unicode_of transform_of identifier_of pieces join
    is_word lower upper title is_true languages
returns c = grind arith
