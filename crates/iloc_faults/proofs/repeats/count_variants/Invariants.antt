use Rattle.std.proofs.Common.{◌≡◌, ◌+◌, ◌≤◌, length}
use Rattle.iloc_faults.specs.States.{variants_left}
use Rattle.iloc_faults.proofs.repeats.count_variants.Given as goal

-- the variants so far and those that are left are all of them, and each has some bytes
abbrev pub invariant-variants : goal.invariant-variants
invariant-variants l = (length (variants_left l.fn.first) ≡ l.count + length (variants_left l.at))
    × (l.count + l.at.remaining ≤ l.fn.first.remaining)

abbrev pub decreases-variants : goal.decreases-variants
decreases-variants l = l.at.remaining
