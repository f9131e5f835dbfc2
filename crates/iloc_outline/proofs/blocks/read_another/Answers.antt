-- The window is the same where another block follows.
use Rattle.std.proofs.Common.{arith}
use Rattle.iloc_outline.proofs.BlocksLemmas.{read_next}
use Rattle.iloc_outline.proofs.blocks.read_another.Goals as goal

pub invariant_of-cursor : goal.invariant_of-cursor
invariant_of-cursor g c = grind (arith, read_next)
