use Rattle.std.proofs.Common.{arith}
use Rattle.iloc_normalize.proofs.EndLemmas.{last_sixteen, same_ends}
use Rattle.iloc_normalize.proofs.normal_text.have_same_ends.Goals as goal

pub returns-then-front : goal.returns-then-front
returns-then-front c = grind (arith, same_ends, last_sixteen)
