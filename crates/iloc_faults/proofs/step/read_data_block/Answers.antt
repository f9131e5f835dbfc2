use Rattle.std.proofs.Common.{arith}
use Rattle.iloc_faults.proofs.StepReadings.{data_read}
use Rattle.iloc_faults.proofs.step.read_data_block.Goals as goal

pub returns-in-Head : goal.returns-in-Head
returns-in-Head c vs seen h = grind (arith, data_read)
