use Rattle.std.proofs.Common.{arith}
use Rattle.iloc_faults.proofs.StepReadings.{new_data, new_some}
use Rattle.iloc_faults.proofs.identifier.is_new.Goals as goal

pub returns-in-Data : goal.returns-in-Data
returns-in-Data c vs h = grind (arith, new_data)

pub returns-in_default : goal.returns-in_default
returns-in_default c vs h = grind (arith, new_some)
