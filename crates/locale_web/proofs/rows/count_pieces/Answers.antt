-- Each piece is counted once.
use Rattle.std.proofs.Common.{◌∙◌}
use Rattle.locale_web.proofs.Kinded.{text_kinded}
use Rattle.locale_web.proofs.Walking.{count_begins, count_ends, as_many}
use Rattle.locale_web.proofs.rows.count_pieces.Goals as goal

pub pieces-init : goal.pieces-init
pieces-init c =
    let h = c.requires in
    let l = c.cursor_in-at.ensures in
    count_begins c.args.normal.now c.cursor_in-at.result (text_kinded h.0 c.args.normal.now h.1).short l.at
    l.remaining l.rest

pub returns : goal.returns
returns c M h = count_ends c.pieces.invariant (c.is_last.ensures.0 c.pieces-test.false)
    ∙ as_many M c.args.normal.now h
