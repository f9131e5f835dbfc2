use Rattle.std.proofs.Common.{◌+◌, ℕ, ap, arith}
use Rattle.iloc_pieces.proofs.CursorLemmas.{few_long}
use Rattle.iloc_faults.proofs.Walks.{scan_ends}
use Rattle.iloc_faults.proofs.walk.end_of.Goals as goal

pub returns-then-at-lt16 : goal.returns-then-at-lt16
returns-then-at-lt16 c = ap (λ (n : ℕ). c.args.at.at + n) (few_long c.args.at c.if-at-lt16.true)

pub returns-else-at-end-ne45 : goal.returns-else-at-end-ne45
returns-else-at-end-ne45 c =
    scan_ends c.args.at c.loop-end.end c.loop-end.invariant (λ _. c.if-at-end-ne45.false)

pub returns-after-loop-end : goal.returns-after-loop-end
returns-after-loop-end c =
    scan_ends c.args.at c.loop-end.end c.loop-end.invariant (λ less. absurd (omega arith))
