use Rattle.std.proofs.Common.{◌+◌, take, arith}
use Rattle.iloc_pieces.specs.Cursor.{bytes_left}
use Rattle.iloc_outline.specs.Printing.{bytes_from}
use Rattle.iloc_outline.proofs.PrintingLemmas.{bytes_here, field_told, no_field_told, written_kept, written_room, written_true}
use Rattle.iloc_outline.proofs.printing.copy_edited.Goals as goal

pub copy_piece-begun-requires-clause-room : goal.copy_piece-begun-requires-clause-room
copy_piece-begun-requires-clause-room c =
    let s = c.args.span.now in
    let first = c.cursor_in-first.result in
    let is = bytes_here c.args.window.now (bytes_left first)
    (s.start + 1) s.end c.requires.inside c.cursor_in-first.ensures.rest in
    omega (
      arith,
      c.requires.room,
      written_room s.role c.printed_role-role.result (bytes_left first)
          (bytes_from c.args.window.now (s.start + 1) s.end) is c.printed_role-role.ensures
          (take c.args.start c.args.to.now),
    )

pub copy_kept-end-requires-clause-room : goal.copy_kept-end-requires-clause-room
copy_kept-end-requires-clause-room c = grind (arith, bytes_here, written_room)

pub returns-then-end-begun-clause-copied : goal.returns-then-end-begun-clause-copied
returns-then-end-begun-clause-copied c = grind (arith, bytes_here, written_true, field_told)

pub returns-clause-copied : goal.returns-clause-copied
returns-clause-copied c = grind (arith, bytes_here, written_kept, no_field_told)
