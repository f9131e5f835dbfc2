use Rattle.std.proofs.Common.{◌∙◌, sym}
use Rattle.std.proofs.lemmas.Result.{on_ok_weaker}
use Rattle.iloc_unicode.proofs.KeywordLemmas.{only_put}
use Rattle.iloc_unicode.proofs.keywords.Keywords.set_only.Goals as goal

pub returns-clause-ok : goal.returns-clause-ok
returns-clause-ok g c =
    let first = sym c.only.view_is ∙ (sym c.into_iter.ensures.into_iter_gives.0 ∙ c.in-Some.ensures.steps) in
    on_ok_weaker c.put_new.result (λ is. is
    ∙ only_put c.args.only c.next.new.self c.args.self.now _ _ c.requires first c.as_slice.ensures.ascending)
    c.put_new.ensures.ok
