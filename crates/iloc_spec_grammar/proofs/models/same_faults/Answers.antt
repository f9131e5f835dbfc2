-- Both ways.
use Rattle.iloc_spec_grammar.proofs.SameFaults.{same_fault}
use Rattle.iloc_spec_grammar.proofs.models.same_faults.Goals as goal

pub returns : goal.returns
returns c = same_fault
