use Rattle.std.proofs.Common.{arith}
use Rattle.iloc_faults.proofs.NewNumbers.{rising_differ, twice}
use Rattle.iloc_faults.proofs.repeats.has_twice.Goals as goal

pub returns-then-sorted-i-clause-yes : goal.returns-then-sorted-i-clause-yes
returns-then-sorted-i-clause-yes c _ = grind (arith, twice)

pub returns-clause-no : goal.returns-clause-no
returns-clause-no c _ = grind (arith, rising_differ)
