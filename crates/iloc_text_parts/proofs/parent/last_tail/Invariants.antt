-- What is left is a tail that is not empty, with the same last piece.
use Rattle.std.proofs.Common.{◌≡◌, ◌≢◌, ◌≤◌, [], length}
use Rattle.iloc_text_parts.specs.Cuts.{last_of}
use Rattle.iloc_text_parts.specs.Tails.{IsTail, tail_pieces}
use Rattle.iloc_text_parts.proofs.parent.last_tail.Given as goal

abbrev pub invariant-pieces : goal.invariant-pieces
invariant-pieces l = IsTail l.rest × (l.rest ≢ []) × (length l.rest ≤ length l.fn.words)
    × (last_of (tail_pieces l.rest) ≡ last_of (tail_pieces l.fn.words))

abbrev pub decreases-pieces : goal.decreases-pieces
decreases-pieces l = length l.rest
