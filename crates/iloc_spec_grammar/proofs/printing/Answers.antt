-- From reading back.
use Rattle.iloc_spec_grammar.proofs.Corollaries.{same_text_same_value, same_meaning}
use Rattle.iloc_spec_grammar.proofs.printing.Goals as goal

pub returns : goal.returns
returns c = record { injective = same_text_same_value; same = same_meaning }
