use Rattle.std.proofs.Common.{length, take, sym, ap, ◌∙◌, arith}
use Rattle.std.proofs.lemmas.List.{length-append, length-take-le}
use Rattle.iloc_spec_grammar.specs.Syntax.{dashes}
use Rattle.iloc_pieces.specs.Cursor.{pieces_left}
use Rattle.iloc_outline.specs.Printing.{kept_pieces}
use Rattle.iloc_spec_grammar.specs.Reading.{rest_of}
use Rattle.iloc_pieces.proofs.CursorLemmas.{last_piece}
use Rattle.iloc_outline.proofs.PrintingLemmas.{first_short, next_short, kept_all, kept_put, kept_room}
use Rattle.iloc_outline.proofs.printing.copy_kept.Goals as goal

pub copy_piece-end-requires-clause-room : goal.copy_piece-end-requires-clause-room
copy_piece-end-requires-clause-room c =
    let h = c.pieces.invariant in
    let F = take c.args.start c.args.to.now in
    let T = dashes (kept_pieces c.args.role (rest_of (pieces_left c.args.first))) in
    omega (
      arith,
      kept_room c.args.role c.pieces.at c.next-at.result c.next-at.ensures (sym c.is_kept.ensures
          ∙ c.if-is_kept.true) F T c.pieces.to c.pieces.end h.inside h.all,
      length-take-le c.args.start c.args.to.now (omega (arith, c.requires.room)),
      c.requires.room,
      c.pieces.auto.to,
    )

pub pieces-preserved-then-is_kept : goal.pieces-preserved-then-is_kept
pieces-preserved-then-is_kept c =
    let h = c.pieces.invariant in
    let F = take c.args.start c.args.to.now in
    let T = dashes (kept_pieces c.args.role (rest_of (pieces_left c.args.first))) in
    let kept = sym c.is_kept.ensures ∙ c.if-is_kept.true in
    record {
      short = next_short c.pieces.at c.next-at.result c.next-at.ensures h.short;
      inside = omega (
        arith,
        kept_room c.args.role c.pieces.at c.next-at.result c.next-at.ensures kept F T
            c.pieces.to c.pieces.end h.inside h.all,
        c.copy_piece-end.ensures.end,
        length-take-le c.args.start c.args.to.now (omega (arith, c.requires.room)),
        c.requires.room,
        c.copy_piece-end.auto.to,
        c.pieces.auto.to,
      );
      all = search kept_put;
    }

pub returns-clause-copied : goal.returns-clause-copied
returns-clause-copied c = grind (arith, kept_all, last_piece, first_short)

pub returns-clause-end : goal.returns-clause-end
returns-clause-end c =
    let h = c.pieces.invariant in
    omega (
      arith,
      ap length (returns-clause-copied c),
      length-take-le c.pieces.end c.pieces.to h.inside,
      length-take-le c.args.start c.args.to.now (omega (arith, c.requires.room)),
      length-append (take c.args.start c.args.to.now)
          (dashes (kept_pieces c.args.role (rest_of (pieces_left c.args.first)))),
    )
