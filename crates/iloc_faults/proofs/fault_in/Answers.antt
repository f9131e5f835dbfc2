use Rattle.std.proofs.Common.{arith}
use Rattle.iloc_normalize.specs.declared.Mode.TheVariants.{Data}
use Rattle.iloc_faults.proofs.FaultAnswers.{good_is, bad_is, inside_is}
use Rattle.iloc_faults.proofs.fault_in.Goals as goal

pub returns-in-Data-clause-inside : goal.returns-in-Data-clause-inside
returns-in-Data-clause-inside g c =
    inside_is Data c.args.text.now c.data_fault.result c.data_fault.ensures.refused

pub returns-in_default : goal.returns-in_default
returns-in_default g c = grind (arith, bad_is, good_is, inside_is)
