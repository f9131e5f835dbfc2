use Rattle.std.proofs.Common.{rules, ◌<◌, ◌≤◌, sym, ◌∙◌}
use Rattle.std.proofs.lemmas.Iterator.{IsFirst-from_position, index_from_first, YieldsList-from_slice}
use Rattle.iloc_extensions.specs.Place.{how_many_up_to}
use Rattle.iloc_extensions.proofs.PlaceLemmas.{place_hit, place_miss, place_none}
use borrow.Author.Tests.{tests}
use Rattle.iloc_extensions.proofs.others.place_of.Goals as goal

pub returns : goal.returns
returns c =
    let others = c.args.others.now in
    let ext = c.args.ext in
    c.unwrap_or.ensures
    ∙ sym (index_from_first (how_many_up_to ext) (λ o. ext < o.0) (λ o. o.0 ≤ ext) (place_none ext)
    (place_hit ext) (place_miss ext) others _ (IsFirst-from_position _ _ _ (λ o. ext < o.0) (λ o. o.0 ≤ ext)
    c.position-above.ensures.ran (YieldsList-from_slice others c.iter.ensures.rest)
    (λ x q k. search (rules, tests)) (λ x q k. search (rules, tests))))
