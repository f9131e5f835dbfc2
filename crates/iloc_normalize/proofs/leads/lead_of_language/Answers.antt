use Rattle.std.proofs.Common.{arith}
use Rattle.iloc_normalize.proofs.FrontAnswers.{unbegun_refused}
use Rattle.iloc_normalize.proofs.leads.lead_of_language.Goals as goal

pub returns : goal.returns
returns c = grind (arith, unbegun_refused)
