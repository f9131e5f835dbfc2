use Rattle.std.proofs.Common.{sym, ap, ◌&&◌, ◌∙◌}
use Rattle.iloc_extensions.specs.ExtensionsValue.{value_of}
use Rattle.iloc_extensions.specs.WellFormed.{is_in_place, is_read_back}
use Rattle.iloc_extensions.proofs.WellFormedLemmas.{by_tests}
use Rattle.iloc_extensions.proofs.well_formed.is_well_formed.Goals as goal

pub returns-then-are_in_place-clause-exactly : goal.returns-then-are_in_place-clause-exactly
returns-then-are_in_place-clause-exactly c =
    let in_place =
    sym c.if-are_in_place.true ∙ c.are_in_place.ensures ∙ ap is_in_place c.deref.ensures.value in
    by_tests (value_of c.args.extensions.now) _ (c.are_read_back.ensures
    ∙ ap (λ b. b && is_read_back (value_of c.args.extensions.now).unicode.keywords) in_place)

pub returns-else-are_in_place-clause-exactly : goal.returns-else-are_in_place-clause-exactly
returns-else-are_in_place-clause-exactly c =
    let out_of_place =
    sym c.if-are_in_place.false ∙ c.are_in_place.ensures ∙ ap is_in_place c.deref.ensures.value in
    by_tests (value_of c.args.extensions.now) _ (c.if-are_in_place.false
    ∙ ap (λ b. b && is_read_back (value_of c.args.extensions.now).unicode.keywords) out_of_place)
