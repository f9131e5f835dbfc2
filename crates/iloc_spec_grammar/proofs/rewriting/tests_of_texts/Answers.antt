-- By the tests.
use Rattle.iloc_spec_grammar.proofs.Equality.{iff_from_tests}
use Rattle.iloc_spec_grammar.proofs.TextTests.{tests_text_step, tests_identifier_text_step}
use Rattle.iloc_spec_grammar.proofs.rewriting.tests_of_texts.Goals as goal

pub returns : goal.returns
returns c = record {
  text = λ T table t u. iff_from_tests (tests_text_step T table t u);
  identifier_text = λ T t u. iff_from_tests (tests_identifier_text_step T t u);
}
