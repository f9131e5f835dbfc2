-- The place is that of the first of the singleton.
use Rattle.std.proofs.Common.{rules, ◌≡◌, ◌≢◌, sym, ◌∙◌}
use Rattle.std.proofs.lemmas.Iterator.{IsFirst-from_position, index_from_first, YieldsList-from_slice}
use Rattle.iloc_handles.specs.OtherPlaces.{place_of_singleton}
use Rattle.iloc_handles.proofs.OtherLemmas.{singleton_hit, singleton_miss, singleton_none}
use borrow.Author.Tests.{tests}
use Rattle.iloc_handles.proofs.others.place_of.Goals as goal

pub returns : goal.returns
returns c =
    let others = c.args.others.now in
    let ext = c.args.ext in
    c.unwrap_or.ensures
    ∙ sym (index_from_first (place_of_singleton ext) (λ o. o.0 ≡ ext) (λ o. o.0 ≢ ext) (singleton_none ext)
    (singleton_hit ext) (singleton_miss ext) others _
    (IsFirst-from_position _ _ _ (λ o. o.0 ≡ ext) (λ o. o.0 ≢ ext)
    c.position-found.ensures.ran (YieldsList-from_slice others c.iter.ensures.rest)
    (λ x q k. search (rules, tests))
    (λ x q k. search (rules, tests))))
