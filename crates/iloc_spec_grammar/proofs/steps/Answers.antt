-- By the steps of the tree.
use Rattle.iloc_spec_grammar.proofs.AnySteps.{text_step_means, text_step_length}
use Rattle.iloc_spec_grammar.proofs.steps.Goals as goal

pub returns : goal.returns
returns c = record { mean = text_step_means; shorten = text_step_length }
