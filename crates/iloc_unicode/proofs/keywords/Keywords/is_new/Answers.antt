use Rattle.std.proofs.Common.{sym, arith}
use Rattle.iloc_unicode.proofs.Lookups.{of_other, of_others}
use Rattle.iloc_unicode.proofs.keywords.Keywords.is_new.Goals as goal

pub returns-in-len1 : goal.returns-in-len1
returns-in-len1 c h = sym (of_other c.args.key.now c.as_slice.result.now c.args.self.now c.index-only-0.result
    c.ne.result c.as_slice.ensures.pairs (omega arith) c.in-len1.len_below c.ne.ensures h)

pub returns-then-ne : goal.returns-then-ne
returns-then-ne c h =
    of_others c.args.key.now c.as_slice.result.now c.args.self.now c.index-first-0.result
    c.index-second-1.result c.ne-in-len2.result c.ne-then-ne.result c.as_slice.ensures.pairs (omega arith)
    c.in-len2.len_below c.ne-in-len2.ensures c.if-ne.true c.ne-then-ne.ensures h
