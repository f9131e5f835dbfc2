-- What is left is a tail, with the same pieces after `u`.
use Rattle.std.proofs.Common.{◌≡◌, length}
use Rattle.iloc_text_parts.specs.Cuts.{after_u}
use Rattle.iloc_text_parts.specs.Tails.{IsTail, tail_pieces}
use Rattle.iloc_text_parts.proofs.keyword.find_unicode.Given as goal

abbrev pub invariant-pieces : goal.invariant-pieces
invariant-pieces l = IsTail l.rest × (after_u (tail_pieces l.rest) ≡ after_u (tail_pieces l.fn.extensions))

abbrev pub decreases-pieces : goal.decreases-pieces
decreases-pieces l = length l.rest
