use Rattle.std.proofs.Common.{◌≡◌}
use Rattle.iloc_spec_grammar.specs.Reading.{rest_of}
use Rattle.iloc_pieces.specs.Cursor.{IsShortPiece, piece_left, pieces_left}
use Rattle.iloc_normalize.specs.Subdivisions.{are_trues}
use Rattle.iloc_normalize.proofs.subdivisions.ends_in_trues.Given as goal

-- what is left is `true` alone if all is
abbrev pub invariant-trues : goal.invariant-trues
invariant-trues l = record {
  short : IsShortPiece (piece_left l.at);
  same : are_trues (rest_of (pieces_left l.fn.word)) ≡ are_trues (rest_of (pieces_left l.at));
}

abbrev pub decreases-trues : goal.decreases-trues
decreases-trues l = l.at.remaining
