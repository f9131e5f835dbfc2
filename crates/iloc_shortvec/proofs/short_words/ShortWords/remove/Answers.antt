use Rattle.std.proofs.Common.{◌≡◌, ◌<◌, length, remove, Some, refl, sym, ap, ◌∙◌, subst, arith}
use Rattle.std.specs.List.{slice_get}
use Rattle.std.proofs.lemmas.Option.{slice_get_read}
use Rattle.iloc_shortvec.proofs.short_words.ShortWords.remove.Goals as goal

pub bounds-as_slice-index : goal.bounds-as_slice-index
bounds-as_slice-index g c = subst (λ xs. c.args.index < length xs) (sym c.as_slice.ensures) c.requires

pub offset_bounds-as_slice-index : goal.offset_bounds-as_slice-index
offset_bounds-as_slice-index g c =
    let l : c.args.index < length c.as_slice.result.now = bounds-as_slice-index g c in
    omega arith

pub invariant_of-self : goal.invariant_of-self
invariant_of-self g c = c.settle.ensures.kept

pub returns-clause-value : goal.returns-clause-value
returns-clause-value g c =
    let item = c.index-as_slice-index in
    subst (λ xs. slice_get xs c.args.index ≡ Some item.result) c.as_slice.ensures
    (slice_get_read c.as_slice.result.now _ c.args.index item.result refl
    (subst (λ xs. c.args.index < length xs) (sym c.as_slice.ensures) c.requires) item.is)

pub returns-clause-rest : goal.returns-clause-rest
returns-clause-rest g c = c.settle.ensures.items
    ∙ (c.take_out.ensures.items ∙ ap (λ xs. remove xs c.args.index) c.self.view_is)
