use Rattle.iloc_langid.proofs.ParentLemmas.{taken_out}
use Rattle.iloc_langid.proofs.parent.pop_variant.Goals as goal

pub returns-clause-popped : goal.returns-clause-popped
returns-clause-popped c = taken_out _ _ _ _ c.as_slice.ensures.value c.as_slice.ensures.ascending
    c.in-Some.ensures.item.3.0 c.in-Some.ensures.item.1 c.remove.ensures.left
