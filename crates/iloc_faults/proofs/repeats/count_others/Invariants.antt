use Rattle.std.proofs.Common.{◌≤◌, ℕ, List, length, take, drop}
use Rattle.iloc_faults.specs.Numbers.{AreNumbersAt, AreOthers}
use Rattle.iloc_faults.proofs.repeats.count_others.Given as goal

-- the numbers so far are others, and those that follow are at the place
abbrev pub invariant-loop-count : goal.invariant-loop-count
invariant-loop-count l = (ns : List ℕ) → AreNumbersAt l.fn.first ns → l.fn.most ≤ length ns →
    AreOthers l.sorted (take l.count ns) × AreNumbersAt l.at (drop l.count ns)
