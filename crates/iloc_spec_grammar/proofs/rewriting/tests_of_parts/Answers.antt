-- By the tests.
use Rattle.iloc_spec_grammar.proofs.Equality.{iff_from_tests}
use Rattle.iloc_spec_grammar.proofs.PartTests.{tests_less_true, tests_identifier_step, tests_extension_step, tests_step}
use Rattle.iloc_spec_grammar.proofs.rewriting.tests_of_parts.Goals as goal

pub returns : goal.returns
returns c = record {
  less_true = λ f g. iff_from_tests (tests_less_true f g);
  identifier = λ r i j. iff_from_tests (tests_identifier_step r i j);
  extension = λ r e f. iff_from_tests (tests_extension_step r e f);
  written = λ v w. iff_from_tests (tests_step v w);
}
