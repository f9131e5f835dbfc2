use Rattle.iloc_outline.proofs.BlocksLemmas.{IsAt}
use Rattle.iloc_outline.proofs.blocks.read_blocks.Given as goal

-- the blocks before this singleton are good, and were put in order
abbrev pub invariant-singletons : goal.invariant-singletons
invariant-singletons g l = IsAt l.fn.cursor l.fn.spans l.fn.in_order l.cursor l.last l.spans l.in_order

abbrev pub decreases-singletons : goal.decreases-singletons
decreases-singletons g l = l.cursor.remaining
