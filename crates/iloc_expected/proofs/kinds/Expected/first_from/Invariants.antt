use Rattle.std.proofs.Common.{◌≡◌}
use Rattle.iloc_expected.specs.Words.{named_from}
use Rattle.iloc_expected.proofs.kinds.Expected.first_from.Given as goal

abbrev pub invariant-loop-place : goal.invariant-loop-place
invariant-loop-place l = named_from l.self l.number ≡ named_from l.self l.place
