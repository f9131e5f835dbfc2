use Rattle.iloc_outline.proofs.ValueLemmas.{Reaches}
use Rattle.iloc_outline.proofs.fields.read_value.Given as goal

-- the values up to here were passed
abbrev pub invariant-values : goal.invariant-values
invariant-values l = Reaches l.fn.cursor l.cursor l.count l.has_true

abbrev pub decreases-values : goal.decreases-values
decreases-values l = l.cursor.remaining
