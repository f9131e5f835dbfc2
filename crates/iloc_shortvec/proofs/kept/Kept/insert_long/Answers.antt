use Rattle.std.proofs.Common.{◌≡◌, OnOk, insert, sym, ap, ◌∙◌, subst}
use Rattle.iloc_shortvec.specs.Kept.{items_of}
use Rattle.iloc_shortvec.proofs.kept.Kept.insert_long.Goals as goal

pub returns-in-Heap-clause-ok : goal.returns-in-Heap-clause-ok
returns-in-Heap-clause-ok g c =
    subst (λ k. OnOk c.insert_at.result
    (c.insert_at.new.list.items ≡ insert (items_of k) c.args.index c.args.item))
    (sym c.in-Heap.is) c.insert_at.ensures.ok

pub returns-clause-ok : goal.returns-clause-ok
returns-clause-ok g c =
    c.in_ok-insert_at.ensures.ok ∙ ap (λ xs. insert xs c.args.index c.args.item)
    (c.in_ok-more.ensures.copies ∙ c.as_slice.ensures)
