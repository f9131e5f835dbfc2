use Rattle.std.proofs.Common.{arith, slice_index}
use Rattle.std.proofs.lemmas.Bool.{and_parts}
use Rattle.iloc_faults.proofs.Bits.{seen_set, seen_not, seen_more}
use Rattle.iloc_faults.proofs.StepReadings.{block_seen, block_read}
use Rattle.iloc_faults.proofs.step.read_block.Goals as goal

pub returns-then-state-bit-ne0 : goal.returns-then-state-bit-ne0
returns-then-state-bit-ne0 c vs seen h = grind (arith, block_seen, seen_set, slice_index, and_parts)

pub returns : goal.returns
returns c vs seen h = grind (arith, block_read, seen_not, slice_index, and_parts, seen_more)
