use Rattle.std.proofs.Common.{◌∙◌, true, false}
use Rattle.iloc_unicode.proofs.Lookups.{from_place}
use Rattle.iloc_unicode.proofs.keywords.value_among.Goals as goal

pub returns-then-eq : goal.returns-then-eq
returns-then-eq c =
    from_place c.args.key.now c.args.pairs.now c.loop-pair.pair-index c.pair-item.result c.eq.result true
    c.loop-pair-test.true c.pair-item.is c.eq.ensures c.if-eq.true
    ∙ c.loop-pair.invariant

pub loop-pair-preserved : goal.loop-pair-preserved
loop-pair-preserved c =
    from_place c.args.key.now c.args.pairs.now c.loop-pair.pair-index c.pair-item.result c.eq.result false
    c.loop-pair-test.true c.pair-item.is c.eq.ensures c.if-eq.false
    ∙ c.loop-pair.invariant
