-- By computing each.
use Rattle.iloc_spec_grammar.specs.Syntax.{pieces, join, is_word, lower, upper, title, is_true, languages}
use Rattle.iloc_spec_grammar.specs.Values.{extensions_spelling}
use Rattle.iloc_spec_grammar.specs.Reading.{identifier_of, front_of, unicode_of, transform_of, written_of}
use Rattle.iloc_spec_grammar.specs.Computing.{locale_result}
use Rattle.iloc_spec_parts.specs.SmallComputing.{small_result, small_identifier_result, after_identifier, blocks_result, block_fault, is_inline}
use Rattle.iloc_spec_parts.proofs.small.by_example.Goals as goal

pub returns : goal.returns
unfolding extensions_spelling is_inline locale_result written_of unicode_of transform_of front_of small_result
    small_identifier_result after_identifier blocks_result block_fault identifier_of pieces join is_word lower
    upper title is_true languages
returns c = search
