use Rattle.std.proofs.Common.{arith}
use Rattle.std.proofs.lemmas.List.{length-take-le}
use Rattle.iloc_outline.proofs.CopyingLemmas.{raised_both, raised_last, raised_none}
use Rattle.iloc_outline.proofs.printing.raise_two.Goals as goal

pub returns-then-at-end-2 : goal.returns-then-at-end-2
returns-then-at-end-2 c = grind (arith, raised_both)

pub returns-else-at-end-2 : goal.returns-else-at-end-2
returns-else-at-end-2 c = grind (arith, raised_last)

pub returns-else-at-ne0 : goal.returns-else-at-ne0
returns-else-at-ne0 c = grind (arith, raised_none, length-take-le)
