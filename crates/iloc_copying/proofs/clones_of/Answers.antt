use Rattle.std.proofs.Common.{◌+◌, ap, arith, subst, take_all, ◌∙◌}
use Rattle.std.proofs.lemmas.List.Elements.{all_zip_more}
use Rattle.std.specs.List.{AllZip}
use Rattle.iloc_copying.proofs.Clones.{equal_of_clones}
use Rattle.iloc_copying.proofs.clones_of.Goals as goal

pub loop-item-preserved : goal.loop-item-preserved
loop-item-preserved g c = record {
  front = rw c.push_reserved.ensures.items (all_zip_more g.T.Clone.is_clone c.as_slice-items.result.now
      c.loop-item.clones.items c.loop-item.item-index _ _ c.loop-item-test.true c.item-item.is
      c.loop-item.invariant.front c.in_ok-clone.ensures.cases);
  count = c.push_reserved.ensures.len ∙ ap (λ n. n + 1) c.loop-item.invariant.count;
  room = rw c.push_reserved.ensures.capacity c.loop-item.invariant.room;
}

pub returns-clause-equal : goal.returns-clause-equal
returns-clause-equal g c = λ same.
    let whole = take_all c.loop-item.item-index c.as_slice-items.result.now
    (omega (arith, c.loop-item-test.false)) in
    equal_of_clones g.T.Clone.is_clone same _ _ (subst (λ xs. AllZip g.T.Clone.is_clone xs
    c.loop-item.clones.items) (whole ∙ c.as_slice-items.ensures.value) c.loop-item.invariant.front)
