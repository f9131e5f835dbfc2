-- Each way by itself.
use Rattle.iloc_spec_grammar.proofs.SameSteps.{tree_step, step_by_tree, tree_identifier_step, identifier_step_by_tree}
use Rattle.iloc_spec_grammar.proofs.rewriting.same_steps.Goals as goal

pub returns : goal.returns
returns c = search (tree_step, step_by_tree, tree_identifier_step, identifier_step_by_tree)
