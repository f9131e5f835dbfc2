use Rattle.std.proofs.Common.{arith}
use Rattle.iloc_normalize.proofs.EndLemmas.{behind, same_eights}
use Rattle.iloc_normalize.proofs.normal_text.have_same_eights.Goals as goal

pub returns-then-front : goal.returns-then-front
returns-then-front c = grind (arith, same_eights, behind)
