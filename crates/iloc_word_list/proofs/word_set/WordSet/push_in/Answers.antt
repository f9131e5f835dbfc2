use Rattle.std.proofs.Common.{◌∷◌, ◌+◌, length, ap, sym, subst, ◌∙◌, true≢false}
use Rattle.std.specs.Prelude.{not, insert}
use Rattle.iloc_memory.specs.Refusals.{RefusedWithin}
use Rattle.iloc_spec_grammar.specs.Syntax.{word_cmp}
use Rattle.iloc_spec_grammar.specs.Values.{StrictlyAscends}
use Rattle.iloc_spec_grammar.proofs.WellRead.{set_of-ascending}
use Rattle.iloc_word_list.proofs.SetLaws.{search_new, search_old}
use Rattle.iloc_word_list.proofs.CollectorLaws.{on_err}
use Rattle.iloc_word_list.proofs.word_set.WordSet.push_in.Goals as goal

pub returns-in-Ok-clause-added : goal.returns-in-Ok-clause-added
returns-in-Ok-clause-added g c = sym (ap not (search_old _ _ c.args.word c.in-Ok.field-0
    c.as_slice.ensures.value c.as_slice.ensures.ascending c.in-Ok.ensures.bound c.in-Ok.ensures.ok).present)

pub returns-in-Ok-clause-ok : goal.returns-in-Ok-clause-ok
returns-in-Ok-clause-ok g c = (search_old _ _ c.args.word c.in-Ok.field-0 c.as_slice.ensures.value
    c.as_slice.ensures.ascending c.in-Ok.ensures.bound c.in-Ok.ensures.ok).set

pub returns-in_ok-insert_in-in-Err-clause-added : goal.returns-in_ok-insert_in-in-Err-clause-added
returns-in_ok-insert_in-in-Err-clause-added g c =
    sym (ap not (search_new _ _ c.args.word c.in-Err.at c.as_slice.ensures.value c.as_slice.ensures.ascending
    c.in-Err.ensures.bound c.in-Err.ensures.position).absent)

pub returns-in_ok-insert_in-in-Err-clause-ok : goal.returns-in_ok-insert_in-in-Err-clause-ok
returns-in_ok-insert_in-in-Err-clause-ok g c =
    c.in_ok-insert_in-in-Err.ensures.ok ∙ ap (λ ws. insert ws c.in-Err.at c.args.word) c.self.view_is
    ∙ (search_new _ _ c.args.word c.in-Err.at c.as_slice.ensures.value c.as_slice.ensures.ascending
    c.in-Err.ensures.bound c.in-Err.ensures.position).set

pub returns-in_err-insert_in-in-Err-clause-known : goal.returns-in_err-insert_in-in-Err-clause-known
returns-in_err-insert_in-in-Err-clause-known g c = λ h.
    absurd (true≢false (sym h
    ∙ (search_new _ _ c.args.word c.in-Err.at c.as_slice.ensures.value c.as_slice.ensures.ascending
    c.in-Err.ensures.bound c.in-Err.ensures.position).absent))

pub invariant_of-self-in-Err : goal.invariant_of-self-in-Err
invariant_of-self-in-Err g c =
    let new = search_new _ _ c.args.word c.in-Err.at c.as_slice.ensures.value c.as_slice.ensures.ascending
    c.in-Err.ensures.bound c.in-Err.ensures.position in
    subst (StrictlyAscends word_cmp)
    (sym (c.in_ok-insert_in-in-Err.ensures.ok ∙ ap (λ ws. insert ws c.in-Err.at c.args.word) c.self.view_is
    ∙ new.set)) (set_of-ascending (c.args.word ∷ c.args.self.now))

pub returns-in_err-insert_in-in-Err-clause-out_of_memory :
    goal.returns-in_err-insert_in-in-Err-clause-out_of_memory
returns-in_err-insert_in-in-Err-clause-out_of_memory g c =
    on_err c.from_residual.result _ (subst (λ ws. RefusedWithin g.M.Memory.refused (length ws + 1))
    c.self.view_is c.in_err-insert_in-in-Err.ensures.out_of_memory)
