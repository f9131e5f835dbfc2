use Rattle.std.proofs.Common.{refl, subst, sym, ap, ◌∙◌, ◌≡◌, List, ◌∷◌, [], ◌++◌, length, insert, arith, drop, append-nil, length-append, of_calls}
use Rattle.std.proofs.Math.ListN.{drop_of_length-le}
use Rattle.std.proofs.iter.Next.{called_at}
use Rattle.std.proofs.lemmas.List.Edits.{insert_end}
use Rattle.std.specs.Fn.{CalledAt}
use Rattle.std.specs.List.Retain.{IsFiltered}
use Rattle.iloc_shortvec.specs.Kept.{items_of, IsKept}
use Rattle.iloc_shortvec.specs.declared.kept.Kept.{Kept}
use Rattle.iloc_shortvec.proofs.Filtered.{filtered_none, more_kept, more_dropped}
use Rattle.iloc_shortvec.proofs.kept.kept_of.Goals as goal
use Rattle.iloc_shortvec.proofs.kept.kept_of.Goals.{then-keep, else-keep}

-- an item that was put at the end
at_end : {T : Type 0} (old new put : Kept T) (xs : List T) (x : T) → new ≡ put → xs ≡ items_of old →
    items_of put ≡ insert (items_of old) (length xs) x → items_of new ≡ items_of old ++ x ∷ []
at_end old new put xs x e p q =
    ap items_of e ∙ (q ∙ (ap (λ ys. insert (items_of old) (length ys) x) p ∙ insert_end (items_of old) x))

pub loop-item-preserved : goal.loop-item-preserved
loop-item-preserved g c =
    let called : CalledAt g.F.FnMut c.loop-item.keep c.item-item.result c.keep.result c.keep.new.self =
    called_at g.F.FnMut {f = c.loop-item.keep} {f' = c.keep.new.self} {r = c.keep.result}
    (record { met = c.keep.ensures.met }) refl in
    elim c.if-keep.branch [
      | then-keep w ↦
          let e : items_of c.if-keep.kept ≡ items_of c.loop-item.kept ++ c.item-item.result ∷ [] =
          at_end c.loop-item.kept c.if-keep.kept w.insert_short.new.self w.as_slice-end.result.now
          c.item-item.result w.kept-is w.as_slice-end.ensures w.insert_short.ensures.items in
          record {
            callable = search of_calls;
            kept = subst IsKept (sym w.kept-is) w.insert_short.ensures.kept;
            short = let l = ap length e in
                omega (
                  arith,
                  length-append (items_of c.loop-item.kept) (c.item-item.result ∷ []),
                  c.loop-item.invariant.short,
                );
            filtered = more_kept c.loop-item.keep c.keep.new.self c.args.keep c.args.items.now
                c.loop-item.item-index c.item-item.result (items_of c.loop-item.kept)
                (items_of c.if-keep.kept) c.loop-item-test.true c.item-item.is c.loop-item.invariant.filtered
                (subst (λ b. CalledAt g.F.FnMut c.loop-item.keep c.item-item.result b c.keep.new.self)
                w.if-keep.true called) e;
          }
      | else-keep w ↦ record {
        callable = search of_calls;
        kept = subst IsKept (sym w.kept-is) c.loop-item.invariant.kept;
        short = let e = ap (λ k. length (items_of k)) w.kept-is in omega (arith, c.loop-item.invariant.short);
        filtered = more_dropped c.loop-item.keep c.keep.new.self c.args.keep c.args.items.now
            c.loop-item.item-index c.item-item.result (items_of c.loop-item.kept) (items_of c.if-keep.kept)
            c.loop-item-test.true c.item-item.is c.loop-item.invariant.filtered
            (subst (λ b. CalledAt g.F.FnMut c.loop-item.keep c.item-item.result b c.keep.new.self)
            w.if-keep.false called) (ap items_of w.kept-is);
      }
    ]

pub returns-clause-items : goal.returns-clause-items
returns-clause-items g c =
    let p : drop c.loop-item.item-index c.args.items.now ≡ [] =
    drop_of_length-le c.args.items.now c.loop-item-test.false in
    let none = subst (λ xs. IsFiltered (CalledAt g.F.FnMut) c.loop-item.keep xs []) (sym p)
    (filtered_none c.loop-item.keep) in
    subst (IsFiltered (CalledAt g.F.FnMut) c.args.keep c.args.items.now)
    (append-nil (items_of c.loop-item.kept)) (c.loop-item.invariant.filtered [] none)
