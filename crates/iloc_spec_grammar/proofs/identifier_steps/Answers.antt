-- By the steps of the tree.
use Rattle.iloc_spec_grammar.proofs.AnySteps.{identifier_step_means, identifier_step_length}
use Rattle.iloc_spec_grammar.proofs.identifier_steps.Goals as goal

pub returns : goal.returns
returns c = record { mean = identifier_step_means; long = identifier_step_length }
