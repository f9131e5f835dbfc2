use Rattle.std.proofs.Common.{arith}
use Rattle.iloc_pieces.proofs.LaneLemmas.{none_greater}
use Rattle.iloc_pieces.proofs.tail.Tail.allows.Goals as goal

pub returns : goal.returns
returns c = grind (arith, none_greater)
