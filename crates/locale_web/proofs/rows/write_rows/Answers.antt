-- Each row is that of a piece.
use Rattle.std.proofs.Common.{◌+◌, ◌∷◌, ◌++◌, ℕ, take, drop, arith, subst, ap, sym, ◌∙◌}
use Rattle.locale_web.specs.Kinds.{kind_number}
use Rattle.locale_web.specs.declared.state.State.{State}
use Rattle.locale_web.proofs.Walking.{IsWritten, write_begins, write_on, write_ends, row_fits, ends_within}
use Rattle.locale_web.proofs.rows.write_rows.Goals as goal

pub pieces-init : goal.pieces-init
pieces-init c =
    let h = c.requires.normal in
    let l = c.cursor_in-at.ensures in
    write_begins h.0 c.args.normal.now c.cursor_in-at.result c.args.table.now h.1
    (c.requires.room h.0 h.1) l.at l.remaining l.rest

pub overflow_add-at : goal.overflow_add-at
overflow_add-at c = let e = ends_within c.pieces.invariant in omega arith

pub write_row-requires : goal.write_row-requires
write_row-requires c = row_fits c.pieces.invariant

pub pieces-preserved : goal.pieces-preserved
pieces-preserved c =
    let kind = c.number.ensures ∙ ap (λ w. kind_number w.0) c.step-kind.ensures in
    subst (λ (s : State). IsWritten c.args.normal.now c.next-at.result s
    (c.pieces.from + 3) c.args.table.now c.write_row.new.table)
    (sym (ap (λ w. w.1) c.step-kind.ensures))
    (write_on c.pieces.invariant c.write_row.new.table
    (c.write_row.ensures ∙ ap (λ (k : ℕ). take c.pieces.from c.pieces.table ++
    (c.pieces.at.at ∷ (c.pieces.at.at + c.pieces.at.piece_length) ∷ k
    ∷ drop (c.pieces.from + 3) c.pieces.table))
    kind)
    c.next-at.ensures)

pub returns : goal.returns
returns c M h =
    let kind = c.number.ensures ∙ ap (λ w. kind_number w.0) c.step-kind.ensures in
    write_ends c.pieces.invariant c.write_row.new.table
    (c.write_row.ensures ∙ ap (λ (k : ℕ). take c.pieces.from c.pieces.table ++
    (c.pieces.at.at ∷ (c.pieces.at.at + c.pieces.at.piece_length) ∷ k
    ∷ drop (c.pieces.from + 3) c.pieces.table))
    kind)
    (c.is_last.ensures.0 c.if-is_last.true) M h
