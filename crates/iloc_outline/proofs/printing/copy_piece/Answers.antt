use Rattle.std.proofs.Common.{arith}
use Rattle.std.proofs.lemmas.List.{length-set}
use Rattle.iloc_pieces.proofs.CursorLemmas.{length_piece}
use Rattle.iloc_outline.proofs.PrintingLemmas.{piece_bytes, piece_inside, piece_put}
use Rattle.iloc_outline.proofs.printing.copy_piece.Goals as goal

pub copy_lower-requires-clause-inside : goal.copy_lower-requires-clause-inside
copy_lower-requires-clause-inside c = piece_inside c.args.cursor c.requires.short

pub copy_lower-requires-clause-room : goal.copy_lower-requires-clause-room
copy_lower-requires-clause-room c = grind (arith, length_piece, length-set)

pub returns-clause-end : goal.returns-clause-end
returns-clause-end c = omega (arith, length_piece c.args.cursor c.requires.short)

pub returns-clause-copied : goal.returns-clause-copied
returns-clause-copied c = grind (arith, piece_put, piece_bytes)
