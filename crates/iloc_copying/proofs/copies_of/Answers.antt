use Rattle.std.proofs.Common.{◌≤◌, length, sym, subst}
use Rattle.iloc_memory.specs.Refusals.{RefusedWithin}
use Rattle.iloc_copying.proofs.Results.{on_err}
use Rattle.iloc_memory.proofs.Within.{within_more}
use Rattle.iloc_copying.specs.Sizes.{items_in}
use Rattle.iloc_copying.proofs.Items.{length_fits, item_fits}
use Rattle.iloc_copying.proofs.copies_of.Goals as goal

pub returns-in_err-copies-clause-out_of_memory : goal.returns-in_err-copies-clause-out_of_memory
returns-in_err-copies-clause-out_of_memory g c =
    on_err c.from_residual.result _
    (subst (λ xs. RefusedWithin g.C.Room.Memory.refused (items_in g.T.Copied.size xs))
    c.as_slice-items.ensures.value (
      length c.as_slice-items.result.now,
      length_fits g.T.Copied.size c.as_slice-items.result.now,
      c.in_err-copies.ensures.refusal,
    ))

pub returns-in_err-copied-clause-out_of_memory : goal.returns-in_err-copied-clause-out_of_memory
returns-in_err-copied-clause-out_of_memory g c =
    let fits : g.T.Copied.size c.item-item.result
    ≤ items_in g.T.Copied.size c.as_slice-items.result.now =
    subst (λ x. g.T.Copied.size x ≤ items_in g.T.Copied.size c.as_slice-items.result.now)
    (sym c.item-item.is)
    (item_fits g.T.Copied.size c.as_slice-items.result.now c.loop-item.item-index c.item-item.result
    c.loop-item-test.true) in
    on_err c.from_residual-in_err-copied.result _ (within_more g.C.Room.Memory.refused _ _
    (subst (λ xs. g.T.Copied.size c.item-item.result ≤ items_in g.T.Copied.size xs)
    c.as_slice-items.ensures.value fits) c.in_err-copied.ensures.out_of_memory)
