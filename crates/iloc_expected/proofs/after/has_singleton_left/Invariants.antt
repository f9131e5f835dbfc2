use Rattle.std.proofs.Common.{◌≡◌, ℕ, ◌<◌}
use Rattle.std.specs.Int.{bit_at}
use Rattle.iloc_expected.proofs.after.has_singleton_left.Given as goal

abbrev pub invariant-loop-place : goal.invariant-loop-place
invariant-loop-place l = (k : ℕ) → k < l.place → bit_at l.seen k ≡ 1
