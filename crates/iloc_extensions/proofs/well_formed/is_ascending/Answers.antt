use Rattle.std.proofs.Common.{rules, nat_lt}
use Rattle.std.proofs.lemmas.List.Sorted.{answers_always}
use borrow.Author.Tests.{tests}
use Rattle.iloc_extensions.proofs.WellFormedLemmas.{ascends}
use Rattle.iloc_extensions.proofs.well_formed.is_ascending.Goals as goal

pub returns : goal.returns
returns c = ascends c.args.others.now _ (c.is_sorted_by.ensures.cases (λ x y. nat_lt x.0 y.0)
    (answers_always _ _ _ (λ f a r g k. search (rules, tests))))
