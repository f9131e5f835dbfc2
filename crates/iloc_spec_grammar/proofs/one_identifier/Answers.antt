-- From the reading of its words.
use Rattle.iloc_spec_grammar.proofs.IdentifierLaws.{one_meaning}
use Rattle.iloc_spec_grammar.proofs.one_identifier.Goals as goal

pub returns : goal.returns
returns c = λ T ps i j. one_meaning ps i j
