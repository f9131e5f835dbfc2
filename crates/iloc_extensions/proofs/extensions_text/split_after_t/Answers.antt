use Rattle.std.proofs.Common.{rules, ◌≡◌, ◌<◌, ◌≤◌, ◌++◌, take, drop, sym, ap, ◌∙◌}
use Rattle.std.proofs.lemmas.Iterator.{IsFirst-from_position, index_from_first, YieldsList-from_slice}
use Rattle.iloc_extensions.proofs.SplitLemmas.{count, count_none, count_hit, count_miss, split_there}
use borrow.Author.Tests.{tests}
use Rattle.iloc_extensions.proofs.extensions_text.split_after_t.Goals.{After-split_at}
use Rattle.iloc_extensions.proofs.extensions_text.split_after_t.Goals as goal
use Rattle.iloc_spec_grammar.specs.Syntax.{code_t}

place : (c : After-split_at) → c.unwrap_or.result ≡ count c.args.others.now
place c =
    let others = c.args.others.now in
    c.unwrap_or.ensures
    ∙ sym
    (index_from_first count (λ o. code_t < o.0) (λ o. o.0 ≤ code_t) count_none count_hit count_miss others _
    (IsFirst-from_position _ _ _ (λ o. code_t < o.0) (λ o. o.0 ≤ code_t) c.position-above.ensures.ran
    (YieldsList-from_slice others c.iter.ensures.rest) (λ x q k. search (rules, tests))
    (λ x q k. search (rules, tests))))

pub returns : goal.returns
returns c bs = split_there bs c.args.others.now
    ∙ (λ k. sym (c.split_at.ensures.front ∙ ap (λ n. take n c.args.others.now) (place c)) k
    ++ (bs ++ sym (c.split_at.ensures.back ∙ ap (λ n. drop n c.args.others.now) (place c)) k))
