-- By computing each.
use Rattle.iloc_spec_grammar.proofs.Examples.{answer, identifier_answer, normalises, refused, normalises_identifier, refused_identifier, same_key_in_two_cases, one_true_stays}
use Rattle.iloc_spec_grammar.proofs.by_example.Goals as goal

pub returns : goal.returns
unfolding answer identifier_answer
returns c = search (
  normalises,
  refused,
  same_key_in_two_cases,
  one_true_stays,
  normalises_identifier,
  refused_identifier,
)
