use Rattle.std.proofs.Common.{◌++◌, ap, ◌∙◌}
use Rattle.iloc_shortvec.proofs.kept.copies.Goals as goal

pub returns-clause-copies : goal.returns-clause-copies
returns-clause-copies g c = c.in_ok-extend_from_slice.ensures.ok ∙ ap (λ xs. xs ++ c.args.items.now)
    c.in_ok-copies.ensures.items
