use Rattle.std.proofs.Common.{refl, sym, ap, arith}
use Rattle.iloc_expected.specs.Words.{before_next}
use Rattle.iloc_expected.proofs.kinds.Expected.before_next.Goals as goal

pub returns-in-Some : goal.returns-in-Some
returns-in-Some c = sym (ap before_next c.in-Some.ensures.some.2)

pub returns-in-None : goal.returns-in-None
returns-in-None c = sym (ap before_next (c.in-None.ensures.none refl (omega arith)))
