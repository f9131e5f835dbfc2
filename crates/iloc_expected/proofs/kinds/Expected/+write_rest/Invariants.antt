use Rattle.std.proofs.Common.{◌-◌}
use Rattle.iloc_expected.proofs.kinds.Expected.+write_rest.Given as goal

abbrev pub decreases-write_rest : goal.decreases-write_rest
decreases-write_rest g l = 13 - l.number
