use Rattle.std.proofs.Common.{get_or, sym, ◌∙◌, arith}
use Rattle.std.proofs.lemmas.Bool.{eqb-true, eq-eqb, false_from_ne_true}
use Rattle.iloc_spec_grammar.proofs.WordsLaws.{length-script}
use Rattle.iloc_pieces.specs.Cursor.{piece_left}
use Rattle.iloc_pieces.proofs.CursorLemmas.{piece_inside, piece_bytes}
use Rattle.iloc_pieces.proofs.ByShape.{cursor_shape, true_number, true_script}
use Rattle.iloc_pieces.proofs.Tests.{script_is}
use Rattle.iloc_pieces.proofs.cursor.is_true.Goals as goal

pub returns-then-cursor-ne16 : goal.returns-then-cursor-ne16
returns-then-cursor-ne16 c =
    let p = piece_left c.args.cursor in
    sym (false_from_ne_true _ (λ h. c.if-cursor-ne16.true
    (cursor_shape c.args.cursor c.requires ∙ eqb-true _ _ (sym (script_is p) ∙ true_script p h))))

pub slice_bounds-copy_from_slice-end-2 : goal.slice_bounds-copy_from_slice-end-2
slice_bounds-copy_from_slice-end-2 c =
    grind (arith, script_is, eq-eqb, cursor_shape, piece_inside, length-script)

pub returns : goal.returns
returns c = grind (arith, script_is, eq-eqb, cursor_shape, length-script, piece_bytes, true_number, get_or)
