use Rattle.std.proofs.Common.{None}
use Rattle.iloc_normalize.specs.declared.Mode.TheVariants.{Data}
use Rattle.iloc_faults.proofs.FaultAnswers.{good_is}
use Rattle.iloc_faults.proofs.walk.data_fault.Goals as goal

pub returns-in-None-clause-accepted : goal.returns-in-None-clause-accepted
returns-in-None-clause-accepted g c = good_is Data c.args.text.now None (λ e. c.in-None.ensures.good e) tt
