-- By computing the test of each step.
use Rattle.std.proofs.Common.{refl}
use Rattle.iloc_spec_grammar.specs.Syntax.{pieces, join, is_word, lower, upper, title, is_true, languages}
use Rattle.iloc_spec_grammar.specs.Reading.{identifier_of, front_of, unicode_of, transform_of, written_of}
use Rattle.iloc_spec_grammar.specs.Computing.{locale_result}
use Rattle.iloc_spec_grammar.specs.StepTests.{is_step, is_text_step}
use Rattle.iloc_spec_grammar.proofs.Examples.{step_by_test, same_key_stays_in_order}
use Rattle.iloc_spec_grammar.proofs.rewriting.by_example.Goals as goal

pub returns : goal.returns
unfolding is_text_step is_step locale_result written_of unicode_of transform_of identifier_of front_of pieces
    join is_word lower upper title is_true languages
returns c = record {
  letter_case = step_by_test _ _ refl;
  block_order = step_by_test _ _ refl;
  variant_order = step_by_test _ _ refl;
  attribute_order = step_by_test _ _ refl;
  field_order = step_by_test _ _ refl;
  repeats = step_by_test _ _ refl;
  trues = step_by_test _ _ refl;
  dropped_pieces = step_by_test _ _ refl;
  same_key_stays_in_order = same_key_stays_in_order;
}
