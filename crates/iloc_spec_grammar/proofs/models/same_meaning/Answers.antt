-- Both ways.
use Rattle.iloc_spec_grammar.proofs.SameMeaning.{tree_means, means_by_tree}
use Rattle.iloc_spec_grammar.proofs.models.same_meaning.Goals as goal

pub returns : goal.returns
returns c = search (tree_means, means_by_tree)
