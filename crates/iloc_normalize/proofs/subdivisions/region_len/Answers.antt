use Rattle.std.proofs.Common.{arith}
use Rattle.iloc_normalize.proofs.Names.{parts}
use Rattle.iloc_normalize.proofs.subdivisions.region_len.Goals as goal
use Rattle.iloc_normalize.proofs.subdivisions.region_len.Goals.{else-is_region-via-then-is_region+else-is_suffix, else-is_region-via-else-is_region, else-is_region-2-via-then-is_region-2+else-is_suffix-2, else-is_region-2-via-else-is_region-2}

pub returns-then-is_suffix : goal.returns-then-is_suffix
returns-then-is_suffix c p all long e = grind (arith, parts)

pub returns-then-shape-eq0 : goal.returns-then-shape-eq0
returns-then-shape-eq0 c p all long e = let h = parts p all long in grind arith

pub returns-then-is_suffix-2 : goal.returns-then-is_suffix-2
returns-then-is_suffix-2 c p all long e = grind (arith, parts)

pub returns : goal.returns
returns c p all long e = let h = parts p all long in grind arith
