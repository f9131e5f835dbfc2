use Rattle.std.proofs.Common.{ap, ◌∙◌, insert, set, take, ◌+◌}
use Rattle.std.specs.List.{copy_within}
use Rattle.iloc_shortvec.proofs.Shifts.{insert_few}
use Rattle.iloc_shortvec.proofs.few.Few.insert.Goals as goal

-- the items up to the place, the new one, and the others one further
pub returns : goal.returns
returns g c =
    let f = c.self.inside in
    let n = c.args.count in
    ap (λ xs. take (n + 1) (set xs c.args.index c.args.item)) c.copy_within.ensures.after
    ∙ (ap (λ m. take (n + 1) (set (copy_within f.cells c.args.index m (c.args.index + 1)) c.args.index
    c.args.item)) c.get.ensures.value
    ∙ (insert_few f.cells n c.args.index c.args.item c.self.invariant c.requires.place c.requires.room
    ∙ ap (λ xs. insert (take n xs) c.args.index c.args.item) c.self.view_is))
