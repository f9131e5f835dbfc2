use Rattle.std.proofs.Common.{◌∙◌, ap, sym, is_some, true≢false}
use Rattle.iloc_unicode.proofs.keywords.Keywords.set_in.Goals as goal

pub returns-in_err-put_new-clause-known : goal.returns-in_err-put_new-clause-known
returns-in_err-put_new-clause-known g c h =
    absurd (true≢false (sym h ∙ ap is_some (c.is_new.ensures c.if-is_new.true)))

pub returns-then-is_new-clause-before : goal.returns-then-is_new-clause-before
returns-then-is_new-clause-before g c = sym (c.is_new.ensures c.if-is_new.true)
