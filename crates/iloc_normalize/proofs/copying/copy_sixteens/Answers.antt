use Rattle.std.proofs.Common.{arith}
use Rattle.iloc_normalize.proofs.EndLemmas.{ends_stored}
use Rattle.iloc_normalize.proofs.copying.copy_sixteens.Goals as goal

pub returns : goal.returns
returns c = grind (arith, ends_stored)
