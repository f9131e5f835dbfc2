use Rattle.std.proofs.Common.{arith}
use Rattle.iloc_expected.proofs.SetBits.{with_kind}
use Rattle.iloc_expected.proofs.kinds.Expected.with.Goals as goal

pub returns-then-holds : goal.returns-then-holds
returns-then-holds c other = grind (arith, with_kind)
