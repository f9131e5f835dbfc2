use Rattle.std.proofs.Common.{get_or, arith}
use Rattle.std.proofs.lemmas.Bool.{eqb-true}
use Rattle.iloc_pieces.proofs.CursorLemmas.{piece_inside, piece_byte}
use Rattle.iloc_pieces.proofs.cursor.singleton.Goals as goal

pub bounds-cursor-cursor : goal.bounds-cursor-cursor
bounds-cursor-cursor c = grind (arith, eqb-true, piece_inside)

pub returns : goal.returns
returns c = grind (arith, eqb-true, piece_byte, get_or)
