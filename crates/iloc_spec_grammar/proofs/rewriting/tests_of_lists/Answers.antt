-- By the tests.
use Rattle.iloc_spec_grammar.proofs.Equality.{iff_from_tests, decided_equality}
use Rattle.iloc_spec_grammar.proofs.ListTests.{tests_reordered, tests_without, tests_without_repeats}
use Rattle.iloc_spec_grammar.proofs.rewriting.tests_of_lists.Goals as goal

pub returns : goal.returns
returns g c = record {
  reordered = λ same d xs ys. iff_from_tests (tests_reordered same (decided_equality same d) xs ys);
  without = λ same d test xs ys. iff_from_tests (tests_without same (decided_equality same d) test xs ys);
  without_repeats = λ same d key seen xs ys.
      iff_from_tests (tests_without_repeats same (decided_equality same d) key seen xs ys);
}
