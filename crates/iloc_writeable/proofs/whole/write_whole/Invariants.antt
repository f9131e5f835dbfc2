use Rattle.std.proofs.Common.{◌≡◌, ℕ, List, ◌++◌, length}
use Rattle.std.specs.Io.KnownBytes.{Appends}
use Rattle.iloc_writeable.proofs.whole.write_whole.Given as goal

-- what was added so far, and the bytes that are left, are the bytes
abbrev pub invariant-writes : goal.invariant-writes
invariant-writes g l = (written : List ℕ)
    × Appends (g.W.Write.contents l.fn.writer) (g.W.Write.contents l.writer) written
    × (l.fn.bytes ≡ written ++ l.rest)

abbrev pub decreases-writes : goal.decreases-writes
decreases-writes g l = length l.rest
