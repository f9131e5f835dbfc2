use Rattle.std.proofs.Common.{◌++◌, length, ap, sym, ◌∙◌, arith}
use Rattle.std.specs.Prelude.{insert}
use Rattle.iloc_memory.proofs.Within.{within_more}
use Rattle.iloc_word_list.proofs.SetLaws.{search_new, search_old}
use Rattle.iloc_word_list.proofs.CollectorLaws.{on_err}
use Rattle.iloc_word_list.proofs.word_collector.with_word.Goals as goal

pub returns-in-Ok-clause-known : goal.returns-in-Ok-clause-known
returns-in-Ok-clause-known g c =
    sym (search_old c.as_slice.result.now c.args.set.now c.args.word c.in-Ok.field-0 c.as_slice.ensures.value
    c.as_slice.ensures.ascending c.in-Ok.ensures.bound c.in-Ok.ensures.ok).present

pub returns-in_err-words-in-Err-clause-err : goal.returns-in_err-words-in-Err-clause-err
returns-in_err-words-in-Err-clause-err g c =
    on_err c.from_residual.result _
    (search_new c.as_slice.result.now c.args.set.now c.args.word c.in-Err.at c.as_slice.ensures.value
    c.as_slice.ensures.ascending c.in-Err.ensures.bound c.in-Err.ensures.position).absent

pub returns-in_err-extend_from_slice-in-Err-clause-err :
    goal.returns-in_err-extend_from_slice-in-Err-clause-err
returns-in_err-extend_from_slice-in-Err-clause-err g c =
    on_err c.from_residual-in_err-extend_from_slice-in-Err.result _
    (search_new c.as_slice.result.now c.args.set.now c.args.word c.in-Err.at c.as_slice.ensures.value
    c.as_slice.ensures.ascending c.in-Err.ensures.bound c.in-Err.ensures.position).absent

pub returns-in_err-insert_at-in-Err-clause-err : goal.returns-in_err-insert_at-in-Err-clause-err
returns-in_err-insert_at-in-Err-clause-err g c =
    on_err c.from_residual-in_err-insert_at-in-Err.result _
    (search_new c.as_slice.result.now c.args.set.now c.args.word c.in-Err.at c.as_slice.ensures.value
    c.as_slice.ensures.ascending c.in-Err.ensures.bound c.in-Err.ensures.position).absent

pub returns-in_ok-insert_at-in-Err-clause-known : goal.returns-in_ok-insert_at-in-Err-clause-known
returns-in_ok-insert_at-in-Err-clause-known g c =
    sym (search_new c.as_slice.result.now c.args.set.now c.args.word c.in-Err.at c.as_slice.ensures.value
    c.as_slice.ensures.ascending c.in-Err.ensures.bound c.in-Err.ensures.position).absent

pub returns-in_ok-insert_at-in-Err-clause-more : goal.returns-in_ok-insert_at-in-Err-clause-more
returns-in_ok-insert_at-in-Err-clause-more g c =
    c.in_ok-insert_at-in-Err.ensures.ok
    ∙ ap (λ ws. insert ws c.in-Err.at c.args.word) (c.in_ok-extend_from_slice-in-Err.ensures.ok
    ∙ ap (λ ws. ws ++ c.as_slice-in-Err.result.now) c.in_ok-words-in-Err.ensures.items
    ∙ c.as_slice-in-Err.ensures.value)
    ∙ (search_new c.as_slice.result.now c.args.set.now c.args.word c.in-Err.at c.as_slice.ensures.value
    c.as_slice.ensures.ascending c.in-Err.ensures.bound c.in-Err.ensures.position).set

pub returns-in_err-words-in-Err-clause-out_of_memory : goal.returns-in_err-words-in-Err-clause-out_of_memory
returns-in_err-words-in-Err-clause-out_of_memory g c =
    on_err c.from_residual.result _ (5, omega (arith, c.requires), c.in_err-words-in-Err.ensures.refusal)

pub returns-in_err-extend_from_slice-in-Err-clause-out_of_memory :
    goal.returns-in_err-extend_from_slice-in-Err-clause-out_of_memory
returns-in_err-extend_from_slice-in-Err-clause-out_of_memory g c =
    let none = ap length c.in_ok-words-in-Err.ensures.items in
    let all = ap length c.as_slice-in-Err.ensures.value in
    on_err c.from_residual-in_err-extend_from_slice-in-Err.result _
    (within_more g.M.Memory.refused _ _ (omega (arith, none, all))
    c.in_err-extend_from_slice-in-Err.ensures.out_of_memory)

pub returns-in_err-insert_at-in-Err-clause-out_of_memory :
    goal.returns-in_err-insert_at-in-Err-clause-out_of_memory
returns-in_err-insert_at-in-Err-clause-out_of_memory g c =
    let copied = ap length (c.in_ok-extend_from_slice-in-Err.ensures.ok
    ∙ ap (λ ws. ws ++ c.as_slice-in-Err.result.now) c.in_ok-words-in-Err.ensures.items
    ∙ c.as_slice-in-Err.ensures.value) in
    on_err c.from_residual-in_err-insert_at-in-Err.result _
    (within_more g.M.Memory.refused _ _ (omega (arith, copied))
    c.in_err-insert_at-in-Err.ensures.out_of_memory)
