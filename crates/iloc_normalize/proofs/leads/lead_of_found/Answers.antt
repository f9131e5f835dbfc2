use Rattle.std.proofs.Common.{get_or, arith}
use Rattle.std.proofs.lemmas.Bool.Decides.{nat_tests}
use Rattle.iloc_normalize.proofs.FoundAnswers.{other_found_refused}
use Rattle.iloc_normalize.proofs.leads.lead_of_found.Goals as goal

pub returns-then-is_ascii_alphanumeric : goal.returns-then-is_ascii_alphanumeric
returns-then-is_ascii_alphanumeric c = grind (arith, get_or, nat_tests, other_found_refused)
