use Rattle.std.proofs.Common.{true, false, arith}
use Rattle.iloc_unicode.proofs.Lookups.{of_only}
use Rattle.iloc_unicode.proofs.keywords.Keywords.get.Goals as goal

pub returns-then-eq : goal.returns-then-eq
returns-then-eq c =
    of_only c.args.key.now c.as_slice.result.now c.args.self.now _ _ c.eq.result true c.as_slice.ensures.pairs
    (omega arith) c.in-len1.len_below c.eq.ensures c.if-eq.true

pub returns-else-eq : goal.returns-else-eq
returns-else-eq c =
    of_only c.args.key.now c.as_slice.result.now c.args.self.now _ c.index-as_slice-0.result c.eq.result false
    c.as_slice.ensures.pairs (omega arith) c.in-len1.len_below c.eq.ensures c.if-eq.false
