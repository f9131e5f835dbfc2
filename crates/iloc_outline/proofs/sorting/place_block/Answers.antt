use Rattle.std.proofs.Common.{arith}
use Rattle.iloc_spans.specs.Spans.{held_spans}
use Rattle.iloc_spans.specs.declared.span.TheConstants.{NO_SPAN}
use Rattle.iloc_outline.proofs.GroupsLemmas.{spell_placed}
use Rattle.iloc_spans.proofs.HeldLemmas.{length-held}
use Rattle.iloc_outline.proofs.sorting.place_block.Goals as goal

pub returns-clause-placed : goal.returns-clause-placed
returns-clause-placed c = λ t before ps groups g _ n long s.
    let old = c.args.spans.now in
    let rank = c.args.rank in
    let p = c.place_before-at.ensures in
    let is = c.as_slice.ensures in
    spell_placed rank t (held_spans old) (held_spans c.turn.new.self) before ps groups c.args.from
    c.place_before-at.result NO_SPAN g n long s p.within (omega (arith, length-held old, c.requires))
    (grind arith)
    (grind arith)
    c.turn.ensures.turned
