use Rattle.std.proofs.Common.{arith}
use Rattle.iloc_faults.proofs.StepReadings.{new_at_least, variant_read}
use Rattle.iloc_faults.proofs.identifier.read_variant.Goals as goal

pub overflow_sub-result : goal.overflow_sub-result
overflow_sub-result g c = grind (arith, new_at_least)

pub returns : goal.returns
returns g c vs h = grind (arith, variant_read)
