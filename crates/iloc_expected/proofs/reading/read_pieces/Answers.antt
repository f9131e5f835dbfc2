use Rattle.std.proofs.Common.{true≢false, sym, ◌∙◌}
use Rattle.iloc_expected.proofs.Walk.{loop_starts, loop_on, loop_stops}
use Rattle.iloc_expected.proofs.reading.read_pieces.Goals as goal

pub pieces-init : goal.pieces-init
pieces-init g c ps h = loop_starts c.args.mode ps c.args.from c.args.first h

pub read_piece-requires : goal.read_piece-requires
read_piece-requires g c =
    let w = c.pieces.invariant c.requires.0 c.requires.1 in
    (w.up_to.variants, w.up_to.seen, w.up_to.read)

pub returns-in_default : goal.returns-in_default
returns-in_default g c ps h =
    let w = c.pieces.invariant ps h in
    loop_stops w (λ e. absurd (true≢false (sym (c.is_last.ensures.1 e) ∙ c.pieces-test.true)))
    (c.in_default.ensures w.up_to.variants w.up_to.seen w.up_to.read)

pub next-at-requires-clause-short : goal.next-at-requires-clause-short
next-at-requires-clause-short g c =
    let w = c.pieces.invariant c.requires.0 c.requires.1 in
    (c.in-Some.ensures w.up_to.variants w.up_to.seen w.up_to.read).0.3

pub pieces-preserved : goal.pieces-preserved
pieces-preserved g c ps h =
    let w = c.pieces.invariant ps h in
    loop_on w c.in-Some.then (c.in-Some.ensures w.up_to.variants w.up_to.seen w.up_to.read) c.next-at.ensures
