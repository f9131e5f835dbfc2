-- Step by step.
use Rattle.iloc_spec_grammar.proofs.AnySteps.{chain_means, chain_length, any_steps_join}
use Rattle.iloc_spec_grammar.proofs.rewriting.any_steps.Goals as goal

pub returns : goal.returns
returns c = search (chain_means, chain_length, any_steps_join)
