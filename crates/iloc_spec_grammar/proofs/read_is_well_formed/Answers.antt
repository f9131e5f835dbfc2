-- Each part of a meaning is normal.
use Rattle.iloc_spec_grammar.proofs.Corollaries.{means_a_value, means_tests, read_well_formed}
use Rattle.iloc_spec_grammar.proofs.read_is_well_formed.Goals as goal

pub returns : goal.returns
returns c = search (means_a_value, read_well_formed, means_tests)
