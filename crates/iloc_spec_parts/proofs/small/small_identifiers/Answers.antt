-- From the reading of its words.
use Rattle.iloc_spec_parts.proofs.SmallLaws.{small_identifier_text_answer, one_small_identifier, small_identifier_means, small_identifier_or_fault, small_identifier_apart, one_small_identifier_fault}
use Rattle.iloc_spec_parts.proofs.small.small_identifiers.Goals as goal

pub returns : goal.returns
returns c = search (
  one_small_identifier,
  small_identifier_means,
  small_identifier_or_fault,
  small_identifier_apart,
  one_small_identifier_fault,
  small_identifier_text_answer,
)
