-- By computing each.
use Rattle.iloc_spec_grammar.specs.Syntax.{pieces, join, is_word, lower, upper, title, is_true, languages}
use Rattle.iloc_spec_grammar.specs.Reading.{identifier_of, front_of, unicode_of, transform_of, written_of}
use Rattle.iloc_spec_grammar.specs.Computing.{locale_result}
use Rattle.iloc_spec_grammar.specs.StepTests.{is_step, is_text_step, is_identifier_text_step}
use Rattle.iloc_spec_grammar.proofs.rewriting.tests_by_example.Goals as goal

pub returns : goal.returns
unfolding is_identifier_text_step is_text_step is_step locale_result written_of unicode_of transform_of
    identifier_of front_of pieces join is_word lower upper title is_true languages
returns c = search
