use Rattle.std.proofs.Common.{arith}
use Rattle.iloc_normalize.proofs.EndLemmas.{same_number, is_equal, are_equal}
use Rattle.iloc_normalize.proofs.normal_text.are_same_pieces.Goals as goal

pub returns : goal.returns
returns c = grind (arith, same_number, is_equal, are_equal)
