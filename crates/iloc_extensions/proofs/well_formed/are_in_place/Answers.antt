use Rattle.std.proofs.Common.{rules, sym, ap, ◌&&◌, ◌∙◌}
use Rattle.std.specs.List.{list_all}
use Rattle.std.proofs.lemmas.Iterator.{YieldsList-from_slice}
use Rattle.std.proofs.lemmas.Iterator.Search.{all_from_yields_List}
use borrow.Author.Tests.{tests}
use Rattle.iloc_extensions.specs.WellFormed.{has_own_place}
use Rattle.iloc_extensions.proofs.well_formed.are_in_place.Goals as goal

pub returns-then-is_ascending : goal.returns-then-is_ascending
returns-then-is_ascending c =
    let others = c.args.others.now in
    all_from_yields_List has_own_place _ _ _ c.all.ensures.ran
    (YieldsList-from_slice others c.iter.ensures.rest) (λ x b q k. search (rules, tests))
    ∙ ap (λ b. b && list_all has_own_place others) (sym (sym c.is_ascending.ensures ∙ c.if-is_ascending.true))
