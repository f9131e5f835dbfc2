-- What is left is a tail, with the same pieces past those that are longer.
use Rattle.std.proofs.Common.{◌≡◌, ◌≤◌, length}
use Rattle.iloc_spec_grammar.specs.Reading.{past}
use Rattle.iloc_text_parts.specs.Tails.{IsTail, is_longer, tail_pieces}
use Rattle.iloc_text_parts.proofs.tails.past_longer.Given as goal

abbrev pub invariant-pieces : goal.invariant-pieces
invariant-pieces l = IsTail l.rest × (length l.rest ≤ length l.fn.tail)
    × (past (is_longer l.fn.least) (tail_pieces l.rest) ≡ past (is_longer l.fn.least) (tail_pieces l.fn.tail))

abbrev pub decreases-pieces : goal.decreases-pieces
decreases-pieces l = length l.rest
