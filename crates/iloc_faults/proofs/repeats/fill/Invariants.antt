use Rattle.std.proofs.Common.{◌≡◌, ◌≤◌, ℕ, List, length, take, drop}
use Rattle.iloc_faults.specs.Numbers.{AreNumbersAt}
use Rattle.iloc_faults.proofs.repeats.fill.Given as goal

-- the first numbers are written, and the others are at the place
abbrev pub invariant-loop-word : goal.invariant-loop-word
invariant-loop-word l = (ns : List ℕ) → AreNumbersAt l.fn.first ns → length l.words ≤ length ns →
    (take l.word-index l.words ≡ take l.word-index ns) × AreNumbersAt l.at (drop l.word-index ns)
