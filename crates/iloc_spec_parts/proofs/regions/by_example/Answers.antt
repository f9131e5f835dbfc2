-- By computing each.
use Rattle.std.proofs.Common.{arith}
use Rattle.iloc_spec_grammar.specs.Syntax.{pieces, join, is_word, lower, upper, title, is_true, languages}
use Rattle.iloc_spec_grammar.specs.Reading.{identifier_of}
use Rattle.iloc_spec_parts.specs.SmallComputing.{small_result, small_identifier_result, after_identifier, blocks_result, block_fault}
use Rattle.iloc_spec_parts.specs.DataComputing.{data_result}
use Rattle.iloc_spec_parts.proofs.regions.by_example.Goals as goal

pub returns : goal.returns
unfolding data_result small_result small_identifier_result after_identifier blocks_result block_fault
    identifier_of pieces join is_word lower upper title is_true languages
returns c = grind arith
