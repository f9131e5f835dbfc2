use Rattle.std.proofs.Common.{rules, tests, ◌∙◌, sym}
use Rattle.std.proofs.lemmas.Iterator.{YieldsList-from_slice}
use Rattle.std.proofs.lemmas.Iterator.Search.{position_from_yields_List}
use Rattle.iloc_cleaning.specs.Cleaning.{ends_base}
use Rattle.iloc_cleaning.proofs.Finding.{unwrap_or-position}
use Rattle.iloc_hints.proofs.signs.base_len.Goals as goal

pub returns-clause-first : goal.returns-clause-first
returns-clause-first c =
    c.unwrap_or.ensures ∙ unwrap_or-position ends_base c.args.text.now c.position-found.result
    (sym (position_from_yields_List ends_base _ _ c.position-found.result c.position-found.ensures.ran
    (YieldsList-from_slice c.args.text.now c.iter.ensures.rest) (λ x b q k. search (rules, tests))))
