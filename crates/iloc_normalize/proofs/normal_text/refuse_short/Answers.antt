use Rattle.std.proofs.Common.{arith}
use Rattle.iloc_normalize.proofs.FrontAnswers.{no_language_refused}
use Rattle.iloc_normalize.proofs.normal_text.refuse_short.Goals as goal

pub returns-clause-normal : goal.returns-clause-normal
returns-clause-normal c = grind (arith, no_language_refused)
