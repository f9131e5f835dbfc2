-- What is left is a tail, with the same pieces after the key.
use Rattle.std.proofs.Common.{◌≡◌, length}
use Rattle.iloc_text_parts.specs.Cuts.{after_key}
use Rattle.iloc_text_parts.specs.Tails.{IsTail, tail_pieces}
use Rattle.iloc_text_parts.proofs.keyword.find_key.Given as goal

abbrev pub invariant-pieces : goal.invariant-pieces
invariant-pieces l = IsTail l.rest
    × (after_key l.key (tail_pieces l.rest) ≡ after_key l.key (tail_pieces l.fn.unicode))

abbrev pub decreases-pieces : goal.decreases-pieces
decreases-pieces l = length l.rest
