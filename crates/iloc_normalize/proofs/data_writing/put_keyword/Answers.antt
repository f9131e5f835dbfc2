use Rattle.std.proofs.Common.{arith}
use Rattle.iloc_normalize.proofs.Puts.{cut_bytes, length-low, put_two}
use Rattle.iloc_normalize.proofs.data_writing.put_keyword.Goals as goal

pub returns-clause-put : goal.returns-clause-put
returns-clause-put c = grind (arith, cut_bytes, put_two, length-low)
