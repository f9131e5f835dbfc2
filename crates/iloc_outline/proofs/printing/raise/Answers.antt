use Rattle.std.proofs.Common.{arith}
use Rattle.std.proofs.lemmas.List.{length-take-le}
use Rattle.iloc_outline.proofs.CopyingLemmas.{raised_none, raised_one}
use Rattle.iloc_outline.proofs.printing.raise.Goals as goal

pub returns-then-at-end : goal.returns-then-at-end
returns-then-at-end c = grind (arith, raised_one)

pub returns-else-at-ne0 : goal.returns-else-at-ne0
returns-else-at-ne0 c = grind (arith, raised_none, length-take-le)
