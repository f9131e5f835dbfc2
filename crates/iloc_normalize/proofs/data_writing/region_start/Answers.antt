use Rattle.std.proofs.Common.{arith}
use Rattle.iloc_normalize.proofs.Regions.{by_digit, by_hyphen, by_none, too_short}
use Rattle.iloc_normalize.proofs.data_writing.region_start.Goals as goal

pub returns-then-end-lt3-clause-start : goal.returns-then-end-lt3-clause-start
returns-then-end-lt3-clause-start c = search too_short

pub returns-then-window-end-eq45-clause-start : goal.returns-then-window-end-eq45-clause-start
returns-then-window-end-eq45-clause-start c = search by_hyphen

pub returns-then-is_ascii_digit-clause-start : goal.returns-then-is_ascii_digit-clause-start
returns-then-is_ascii_digit-clause-start c = grind (arith, by_digit)

pub returns-clause-start : goal.returns-clause-start
returns-clause-start c = grind (arith, by_none)
