-- By computing each.
use Rattle.std.proofs.Common.{arith}
use Rattle.iloc_spec_grammar.specs.Syntax.{is_word, lower, upper, title, is_true}
use Rattle.iloc_spec_parts.proofs.preferences.keywords_by_example.Goals as goal

pub returns : goal.returns
unfolding is_word lower upper title is_true
returns c = grind arith
