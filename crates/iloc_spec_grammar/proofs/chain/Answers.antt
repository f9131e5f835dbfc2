-- From the sorting of each part.
use Rattle.iloc_spec_grammar.proofs.AnySteps.{chain_to_text, shortest, texts_lead_to_one}
use Rattle.iloc_spec_grammar.proofs.chain.Goals as goal

pub returns : goal.returns
returns c = search (chain_to_text, shortest, texts_lead_to_one)
