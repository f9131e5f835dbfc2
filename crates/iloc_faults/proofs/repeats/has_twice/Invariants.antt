use Rattle.std.proofs.Common.{◌<◌, ◌+◌, ℕ, slice_index}
use Rattle.iloc_faults.proofs.repeats.has_twice.Given as goal

-- up to here each number is greater than the one before it
abbrev pub invariant-loop-i : goal.invariant-loop-i
invariant-loop-i l = (k : ℕ) → k + 1 < l.i → slice_index l.sorted k < slice_index l.sorted (k + 1)
