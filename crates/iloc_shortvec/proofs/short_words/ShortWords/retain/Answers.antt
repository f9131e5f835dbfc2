use Rattle.std.proofs.Common.{refl, sym, ap, ◌∙◌}
use Rattle.std.specs.Fn.{CalledAt}
use Rattle.iloc_shortvec.specs.Kept.{items_of}
use Rattle.iloc_shortvec.proofs.Filtered.{filtered_none, filtered_same}
use Rattle.iloc_shortvec.proofs.short_words.ShortWords.retain.Goals as goal

pub invariant_of-self-in-Inline : goal.invariant_of-self-in-Inline
invariant_of-self-in-Inline g c = c.kept_of.ensures.kept

pub invariant_of-self-in-Heap : goal.invariant_of-self-in-Heap
invariant_of-self-in-Heap g c = c.settle.ensures.kept

pub returns-in-Empty : goal.returns-in-Empty
returns-in-Empty g c =
    let none = sym (ap items_of c.in-Empty.is) in
    filtered_same {R = CalledAt g.F.FnMut} c.args.keep (none ∙ c.self.view_is) none
    (filtered_none c.args.keep)

pub returns-in-Inline : goal.returns-in-Inline
returns-in-Inline g c =
    filtered_same {R = CalledAt g.F.FnMut} c.args.keep (c.as_slice.ensures.items
    ∙ (ap items_of (sym c.in-Inline.is) ∙ c.self.view_is)) refl c.kept_of.ensures.items

pub returns-in-Heap : goal.returns-in-Heap
returns-in-Heap g c =
    filtered_same {R = CalledAt g.F.FnMut} c.args.keep (ap items_of (sym c.in-Heap.is) ∙ c.self.view_is)
    (sym c.settle.ensures.items) c.retain.ensures.filtered
