use Rattle.std.proofs.Common.{◌≡◌, ◌<◌, ◌≤◌, ◌-◌, ℕ, zero, suc, List, [], take, ◌∷◌, length, remove, refl, sym, ap, ◌∙◌, subst, arith}
use Rattle.iloc_shortvec.specs.Kept.{items_of}
use Rattle.iloc_shortvec.proofs.kept.Kept.take_out.Goals as goal

-- the only item
none_left : {T : Type 0} (xs : List T) (i : ℕ) → i < length xs → length xs ≤ 1 → [] ≡ remove xs i
none_left [] i l few = absurd (omega arith)
none_left (x ∷ []) zero l few = refl
none_left (x ∷ []) (suc i) l few = absurd (omega arith)
none_left (x ∷ (y ∷ ys)) i l few = absurd (omega arith)

pub remove-requires-in-Heap : goal.remove-requires-in-Heap
remove-requires-in-Heap g c =
    let l : c.args.index < length c.in-Heap.items.items =
    subst (λ k. c.args.index < length (items_of k)) c.in-Heap.is c.requires in
    omega (arith, c.in-Heap.items.ok.0)

pub returns-in-Empty-clause-items : goal.returns-in-Empty-clause-items
returns-in-Empty-clause-items g c =
    let l = ap (λ k. length (items_of k)) c.in-Empty.is in
    absurd (omega (arith, c.requires))

pub returns-then-as_slice-gt1-clause-items : goal.returns-then-as_slice-gt1-clause-items
returns-then-as_slice-gt1-clause-items g c =
    let left : c.of.result ≡ c.in-Inline.count - 1 =
    omega (arith, c.of.ensures, c.get.ensures.value) in
    ap (λ n. take n c.remove.new.self) left
    ∙ (c.remove.ensures ∙ ap (λ k. remove (items_of k) c.args.index) (sym c.in-Inline.is))

pub returns-else-as_slice-gt1-clause-items : goal.returns-else-as_slice-gt1-clause-items
returns-else-as_slice-gt1-clause-items g c =
    let count = ap length c.as_slice.ensures.items in
    let same = ap (λ k. length (items_of k)) c.in-Inline.is in
    none_left (items_of c.args.self.now) c.args.index c.requires (omega arith)

pub returns-in-Heap-clause-items : goal.returns-in-Heap-clause-items
returns-in-Heap-clause-items g c = c.remove-in-Heap.ensures.items ∙ ap (λ k. remove (items_of k) c.args.index)
    (sym c.in-Heap.is)
