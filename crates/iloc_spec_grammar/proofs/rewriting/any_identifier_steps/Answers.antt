-- Step by step.
use Rattle.iloc_spec_grammar.proofs.AnySteps.{identifier_chain_means, identifier_chain_length, any_identifier_steps_join}
use Rattle.iloc_spec_grammar.proofs.rewriting.any_identifier_steps.Goals as goal

pub returns : goal.returns
returns c =
    record { mean = identifier_chain_means; long = identifier_chain_length; same = any_identifier_steps_join }
