use Rattle.locale_web.proofs.Walking.{IsCounted}
use Rattle.locale_web.proofs.rows.count_pieces.Given as goal

abbrev pub invariant-pieces : goal.invariant-pieces
invariant-pieces l = IsCounted l.normal l.at l.count

abbrev pub decreases-pieces : goal.decreases-pieces
decreases-pieces l = l.at.remaining
