use Rattle.std.proofs.Common.{◌≡◌, ◌+◌, ◌∙◌, ap, length, subst, true, false, true≢false, sym, is_some}
use Rattle.std.specs.FinMap.{find}
use Rattle.iloc_memory.specs.Refusals.{RefusedWithin}
use Rattle.iloc_spec_grammar.specs.Syntax.{word_cmp}
use Rattle.iloc_word_list.proofs.CollectorLaws.{on_err}
use Rattle.iloc_unicode.proofs.keywords.Keywords.add.Goals as goal

refused_not : false ≡ true → ⊥
refused_not h = true≢false (sym h)

pub returns-in_err-try_insert_in-clause-known : goal.returns-in_err-try_insert_in-clause-known
returns-in_err-try_insert_in-clause-known g c h = absurd (refused_not
    (c.in_err-try_insert_in.ensures.keeps
    (ap (λ es. is_some (find word_cmp c.args.key es)) c.self.view_is ∙ h)))

pub returns-in_err-try_insert_in-clause-out_of_memory :
    goal.returns-in_err-try_insert_in-clause-out_of_memory
returns-in_err-try_insert_in-clause-out_of_memory g c =
    on_err c.from_residual.result _ (subst (λ es. RefusedWithin g.M.Memory.refused (length es + 1))
    c.self.view_is c.in_err-try_insert_in.ensures.out_of_memory)
