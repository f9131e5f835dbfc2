use Rattle.std.proofs.Common.{List}
use Rattle.iloc_spec_grammar.specs.Syntax.{Text}
use Rattle.iloc_expected.specs.Readings.{IsReadUpTo, IsReadOn}
use Rattle.iloc_expected.proofs.reading.read_pieces.Given as goal

abbrev pub invariant-pieces : goal.invariant-pieces
invariant-pieces g l = (ps : List Text) → IsReadUpTo l.mode ps l.fn.from l.fn.first →
    IsReadOn l.mode ps l.fn.from l.at l.reading

abbrev pub decreases-pieces : goal.decreases-pieces
decreases-pieces g l = l.at.remaining
