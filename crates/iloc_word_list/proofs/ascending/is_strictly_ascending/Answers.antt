use Rattle.std.proofs.Common.{◌∙◌, sym}
use Rattle.iloc_word_list.proofs.AscendingLaws.{ascends_next}
use Rattle.iloc_word_list.proofs.ascending.is_strictly_ascending.Goals as goal

pub returns-then-is_ge : goal.returns-then-is_ge
returns-then-is_ge g c =
    sym (c.loop-item.invariant
    ∙ ascends_next g.T.Ord.cmp c.loop-item.last.now c.in-Some.others.now c.loop-item.item-index
    c.item-item.result _ c.loop-item-test.true c.item-item.is
    (rw c.cmp.ensures at (sym c.is_ge.ensures ∙ c.if-is_ge.true)))

pub loop-item-preserved : goal.loop-item-preserved
loop-item-preserved g c =
    c.loop-item.invariant
    ∙ ascends_next g.T.Ord.cmp c.loop-item.last.now c.in-Some.others.now c.loop-item.item-index
    c.item-item.result _ c.loop-item-test.true c.item-item.is
    (rw c.cmp.ensures at (sym c.is_ge.ensures ∙ c.if-is_ge.false))
