use Rattle.std.proofs.Common.{ap, ◌∙◌, remove, take, arith, ◌+◌, ◌-◌}
use Rattle.std.specs.List.{copy_within}
use Rattle.iloc_shortvec.proofs.Shifts.{remove_few}
use Rattle.iloc_shortvec.proofs.few.Few.remove.Goals as goal

-- the items up to the place, and the others one nearer
pub returns : goal.returns
returns g c =
    let f = c.self.inside in
    let n = c.args.count in
    ap (take (n - 1)) c.copy_within.ensures.after
    ∙ (ap (λ m. take (n - 1) (copy_within f.cells (c.args.index + 1) m c.args.index)) c.get.ensures.value
    ∙ (remove_few f.cells n c.args.index c.self.invariant c.requires
    (omega (arith, c.get.ensures.value, c.get.ensures.few))
    ∙ ap (λ xs. remove (take n xs) c.args.index) c.self.view_is))
