use Rattle.locale_web.proofs.Walking.{IsWritten}
use Rattle.locale_web.proofs.rows.write_rows.Given as goal

abbrev pub invariant-pieces : goal.invariant-pieces
invariant-pieces l = IsWritten l.normal l.at l.state l.from l.fn.table l.table

abbrev pub decreases-pieces : goal.decreases-pieces
decreases-pieces l = l.at.remaining
