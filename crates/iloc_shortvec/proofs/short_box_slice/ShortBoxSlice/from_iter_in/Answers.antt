use Rattle.std.proofs.Common.{◌≡◌, List, Option, ap, sym, subst, length, arith}
use Rattle.std.specs.Iterator.{IsFinite, Drains, size}
use Rattle.iloc_memory.proofs.Within.{within_more}
use Rattle.iloc_copying.proofs.Results.{on_err}
use Rattle.iloc_shortvec.proofs.short_box_slice.ShortBoxSlice.from_iter_in.Goals as goal

-- what came from an iterator that is the one that was made
drained : {S T : Type 0} (gives : S → Option T → S → Type 0) (IsMade : S → Type 0) (made it : S)
    (list items : List T) → IsMade made → it ≡ made → list ≡ items → Drains gives it items
    → (s : S) × IsMade s × Drains gives s list
drained gives IsMade made it list items m e f d =
    (made, m, subst (λ s. Drains gives s list) e (subst (λ xs. Drains gives it xs) (sym f) d))

pub loop-item-init : goal.loop-item-init
loop-item-init g c =
    let ready = c.requires.ends _ c.into_iter-items.ensures.into_iter_gives in
    let is = sym c.into_iter-item-iterator.ensures.into_iter_gives in
    record {
      callable = subst g.I.IntoIter.Iterator.can_next is ready.0;
      ends = subst (λ it. IsFinite (g.I.IntoIter.Iterator.remaining it)) is ready.1;
      kept = c.new-list.ensures;
      left = omega arith;
    }

pub returns-then-least-gt1-clause-value : goal.returns-then-least-gt1-clause-value
returns-then-least-gt1-clause-value g c = (
  c.into_iter-items.result,
  c.into_iter-items.ensures.into_iter_gives,
  subst (Drains g.I.IntoIter.Iterator.next_gives c.into_iter-items.result) (sym c.from_vec.ensures)
      c.in_ok-all.ensures.value,
)

pub returns-clause-value : goal.returns-clause-value
returns-clause-value g c =
    drained g.I.IntoIter.Iterator.next_gives (g.I.IntoIterator.into_iter_gives c.args.iter)
    c.into_iter-items.result c.into_iter-item-iterator.result c.loop-item.list c.loop-item.yielded
    c.into_iter-items.ensures.into_iter_gives c.into_iter-item-iterator.ensures.into_iter_gives
    c.loop-item.invariant.kept
    (c.next.new.self, (c.loop-item.item-iterator, c.loop-item.yielded_by, c.in-None.ensures.steps))

pub returns-in_err-push_in-clause-out_of_memory : goal.returns-in_err-push_in-clause-out_of_memory
returns-in_err-push_in-clause-out_of_memory g c =
    let made = ap (λ it. size (g.I.IntoIter.Iterator.remaining it))
    c.into_iter-item-iterator.ensures.into_iter_gives in
    let kept = ap length c.loop-item.invariant.kept in
    let nearer = (c.in-Some.ensures.goes.on c.loop-item.invariant.ends).2 in
    on_err c.from_residual-in_err-push_in.result _ (
      c.into_iter-items.result,
      c.into_iter-items.ensures.into_iter_gives,
      within_more g.M.Memory.refused _ _ (omega (arith, made, kept, nearer, c.loop-item.invariant.left))
          c.in_err-push_in.ensures.out_of_memory,
    )
