-- By computing each.
use Rattle.std.proofs.Common.{refl}
use Rattle.iloc_spec_grammar.specs.Syntax.{pieces, join, is_word, lower, upper, title, is_true, languages}
use Rattle.iloc_spec_grammar.specs.Reading.{written_of, unicode_of, transform_of, identifier_of, front_of}
use Rattle.iloc_spec_grammar.specs.Values.{identifier_text, extensions_spelling}
use Rattle.iloc_spec_grammar.specs.Computing.{locale_result}
use Rattle.iloc_spec_parts.specs.SmallComputing.{small_result, small_identifier_result, after_identifier, blocks_result, block_fault}
use Rattle.iloc_spec_parts.specs.DataComputing.{data_result}
use Rattle.iloc_program.specs.Answers.{line_answer}
use Rattle.iloc_program.proofs.laws.by_example.Goals as goal

pub returns : goal.returns
unfolding line_answer identifier_text extensions_spelling locale_result data_result small_result
    small_identifier_result after_identifier blocks_result block_fault written_of unicode_of transform_of
    identifier_of front_of pieces join is_word lower upper title is_true languages
returns c = record {
  locales = refl;
  nothing = refl;
  carriage_return = refl;
  identifiers = refl;
  extensions = refl;
  data_locales = refl;
}
