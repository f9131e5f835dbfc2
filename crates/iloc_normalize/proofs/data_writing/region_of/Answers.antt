use Rattle.std.proofs.Common.{arith}
use Rattle.iloc_spec_grammar.specs.Syntax.{upper}
use Rattle.iloc_normalize.proofs.data_writing.region_of.Goals as goal

pub returns : goal.returns
unfolding upper
returns c = grind arith
