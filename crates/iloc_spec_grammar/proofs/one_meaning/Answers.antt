-- From the reading of whole texts.
use Rattle.iloc_spec_grammar.proofs.SameMeaning as meanings
use Rattle.iloc_spec_grammar.proofs.one_meaning.Goals as goal

pub returns : goal.returns
returns c = λ T table t L M. meanings.one_meaning table t L M
