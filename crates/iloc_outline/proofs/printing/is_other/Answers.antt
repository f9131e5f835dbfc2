use Rattle.std.proofs.Common.{arith}
use Rattle.iloc_outline.proofs.PrintingLemmas.{piece_first, piece_inside, piece_none}
use Rattle.iloc_outline.proofs.printing.is_other.Goals as goal

pub bounds-cursor-cursor : goal.bounds-cursor-cursor
bounds-cursor-cursor c = grind (arith, piece_inside)

pub returns : goal.returns
returns c = grind (arith, piece_first)

pub returns-then-cursor-eq0 : goal.returns-then-cursor-eq0
returns-then-cursor-eq0 c = search piece_none
