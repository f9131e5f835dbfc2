use Rattle.std.proofs.Common.{take}
use Rattle.iloc_normalize.specs.declared.Mode.TheVariants.{Langid}
use Rattle.iloc_faults.specs.States.{IsWalked}
use Rattle.iloc_faults.proofs.Walks.{words}
use Rattle.iloc_faults.proofs.walk.words_behind.Given as goal

abbrev pub invariant-words : goal.invariant-words
invariant-words g l = IsWalked Langid (take l.len l.window) l.at (words l.stage l.variants)

abbrev pub decreases-words : goal.decreases-words
decreases-words g l = l.at.remaining
