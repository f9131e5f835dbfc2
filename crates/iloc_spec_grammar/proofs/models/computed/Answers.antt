-- Test by test.
use Rattle.iloc_spec_grammar.proofs.ComputingLaws.{locale_answers, text_identifier_answers, computed_means, computed_fault, computed_identifier, computed_identifier_fault}
use Rattle.iloc_spec_grammar.proofs.models.computed.Goals as goal

pub returns : goal.returns
returns c = search (
  locale_answers,
  text_identifier_answers,
  computed_means,
  computed_fault,
  computed_identifier,
  computed_identifier_fault,
)
