-- The tests are those of the printed tree.
use Rattle.iloc_spec_grammar.proofs.SameText.{well_formed_in, well_formed_is}
use Rattle.iloc_spec_grammar.proofs.well_formed.Goals as goal

pub returns : goal.returns
returns c = search (well_formed_is, well_formed_in)
