use Rattle.std.proofs.Common.{arith}
use Rattle.std.proofs.lemmas.Bool.Decides.{nat_tests}
use Rattle.iloc_outline.proofs.ValueLemmas.{plain_one, plain_without}
use Rattle.iloc_outline.proofs.fields.is_edited.Goals as goal

pub returns-else-eq : goal.returns-else-eq
returns-else-eq c = grind (arith, nat_tests, plain_one)

pub returns-else-value : goal.returns-else-value
returns-else-value c = λ e. plain_without c.args.role c.requires _ _ e
