use Rattle.std.proofs.Common.{arith}
use Rattle.iloc_pieces.proofs.MarkLemmas.{before_first}
use Rattle.iloc_pieces.proofs.marked.before_marked.Goals as goal

pub returns : goal.returns
returns c = grind (arith, before_first)
