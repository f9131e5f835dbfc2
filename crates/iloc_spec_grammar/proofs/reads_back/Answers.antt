-- By the tests, which do not depend on the table.
use Rattle.iloc_spec_grammar.proofs.Corollaries.{means_again, reads_back}
use Rattle.iloc_spec_grammar.proofs.reads_back.Goals as goal

pub returns : goal.returns
returns c = search (means_again, reads_back)
