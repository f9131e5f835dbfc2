-- By sorting the variants, and then the case.
use Rattle.iloc_spec_grammar.proofs.AnySteps.{identifier_chain_to_text, length-identifier_means, identifiers_lead_to_one}
use Rattle.iloc_spec_grammar.proofs.identifier_chain.Goals as goal

pub returns : goal.returns
returns c = search (identifier_chain_to_text, length-identifier_means, identifiers_lead_to_one)
