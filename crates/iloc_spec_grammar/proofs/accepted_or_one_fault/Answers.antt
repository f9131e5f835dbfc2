-- By cases on the head and the blocks.
use Rattle.iloc_spec_grammar.proofs.SameFaults.{accepted_or_fault, accepted_no_fault, one_fault}
use Rattle.iloc_spec_grammar.proofs.accepted_or_one_fault.Goals as goal

pub returns : goal.returns
returns c = search (accepted_or_fault, accepted_no_fault, one_fault)
