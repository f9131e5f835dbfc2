-- The one at the place of the singleton is that of the singleton, if there is one.
use Rattle.std.proofs.Common.{List, option_map, slice_get, ap, ◌∙◌}
use Rattle.std.specs.FinMap.{find}
use Rattle.std.specs.Ordering.{nat_cmp}
use Rattle.iloc_handles.proofs.ItemLemmas.{item_at}
use Rattle.iloc_handles.proofs.OtherLemmas.{at_singleton}
use Rattle.iloc_handles.proofs.others.other_of.Goals as goal
use Rattle.iloc_spec_grammar.specs.Syntax.{Text}

pub returns : goal.returns
returns c =
    let others = c.as_slice-others in
    let small = c.to_ascii_lowercase in
    item_at _ _ _ c.get.ensures.lookup ∙ ap (slice_get others.result.now) c.place_of.ensures
    ∙ at_singleton small.result others.result.now
    ∙ (λ i. option_map (λ (ws : List Text). (small.ensures.value i, ws))
    (find nat_cmp (small.ensures.value i) (others.ensures.value i)))
