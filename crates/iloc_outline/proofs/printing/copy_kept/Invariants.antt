use Rattle.std.proofs.Common.{◌≡◌, ◌≤◌, ◌++◌, length, take}
use Rattle.std.specs.List.{AllByRecursion}
use Rattle.iloc_spec_grammar.specs.Syntax.{dashes}
use Rattle.iloc_pieces.specs.Cursor.{IsShortPiece, pieces_left}
use Rattle.iloc_outline.specs.Printing.{kept_pieces}
use Rattle.iloc_spec_grammar.specs.Reading.{rest_of}
use Rattle.iloc_outline.proofs.printing.copy_kept.Given as goal

-- what was written, and what is left to write, are all the pieces that are kept
abbrev pub invariant-pieces : goal.invariant-pieces
invariant-pieces l = record {
  short : AllByRecursion IsShortPiece (pieces_left l.at);
  inside : l.end ≤ length l.to;
  all : take l.end l.to ++ dashes (kept_pieces l.role (rest_of (pieces_left l.at)))
      ≡ take l.start l.fn.to ++ dashes (kept_pieces l.role (rest_of (pieces_left l.fn.first)));
}

abbrev pub decreases-pieces : goal.decreases-pieces
decreases-pieces l = l.at.remaining
