use Rattle.std.proofs.Common.{arith}
use Rattle.iloc_outline.proofs.WordsInOrder.{walks_full}
use Rattle.iloc_outline.proofs.growth.InPlaceGrowth.read_words.Goals as goal

pub returns-clause-read : goal.returns-clause-read
returns-clause-read c = search walks_full

pub returns-clause-refused : goal.returns-clause-refused
returns-clause-refused c = λ _. (0, omega arith, tt)
