use Rattle.std.proofs.Common.{rules}
use Rattle.std.specs.List.{list_all}
use Rattle.std.proofs.lemmas.Iterator.Consumers.{YieldsList-from_first}
use Rattle.std.proofs.lemmas.Iterator.Search.{all_from_yields_List}
use borrow.Author.Tests.{tests}
use Rattle.iloc_extensions.specs.WellFormed.{is_plain}
use Rattle.iloc_extensions.proofs.well_formed.are_read_back.Goals as goal

pub returns : goal.returns
returns c = all_from_yields_List (λ f. list_all is_plain f.1) _ _ _ c.all.ensures.ran
    (YieldsList-from_first (λ x. (x.0.now, x.1.now)) (λ rest. rest) c.args.keywords.now c.iter.ensures)
    (λ x b q k. search (rules, tests))
