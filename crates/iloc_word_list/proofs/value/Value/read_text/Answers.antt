use Rattle.std.proofs.Common.{◌≤◌, ◌<◌, ℕ, true≢false, length, ap, sym, ◌∙◌, arith, subst}
use Rattle.std.proofs.lemmas.Result.{err_from_is_err_and}
use Rattle.iloc_spec_grammar.specs.Syntax.{Subtag, is_word}
use Rattle.iloc_spec_grammar.specs.Meaning.{normal_values}
use Rattle.iloc_spec_grammar.specs.Reading.{passing, past}
use Rattle.iloc_subtags.specs.Left.{left}
use Rattle.iloc_memory.specs.Refusals.{RefusedWithin}
use Rattle.iloc_memory.proofs.Within.{within_more}
use Rattle.iloc_word_list.proofs.RoomLemmas.{values_fit}
use Rattle.iloc_word_list.proofs.WholeLemmas.{whole_read, whole_left}
use Rattle.iloc_word_list.proofs.value.Value.read_text.Goals as goal

not_few : (n : ℕ) → (n ≤ 4 → ⊥) → 4 < n
not_few n h = omega (arith, h)

pub returns-in_err-value-clause-memory : goal.returns-in_err-value-clause-memory
returns-in_err-value-clause-memory g c =
    let p = err_from_is_err_and c.from_residual.result c.from_residual.ensures.1 in
    rw (p.1, p.2) (not_few _ (λ few. true≢false (sym (c.in_err-value.ensures.succeeds
    (subst (λ ps. length (normal_values (passing (is_word Subtag) ps)) ≤ 4) (sym c.new-iter.ensures) few)))))

pub returns-in-Some-clause-reads : goal.returns-in-Some-clause-reads
returns-in-Some-clause-reads g c =
    whole_left c.args.code_units.now (left c.read_words.new.iter) c.in-Some.field-0.now
    (sym c.is_empty.ensures ∙ c.if-is_empty.false) c.in-Some.ensures
    (c.in_ok-value.ensures.rest ∙ ap (past (is_word Subtag)) c.new-iter.ensures)

pub returns-in-None-clause-reads : goal.returns-in-None-clause-reads
returns-in-None-clause-reads g c =
    whole_read c.args.code_units.now (left c.read_words.new.iter) c.in_ok-value.value
    (sym c.is_empty.ensures ∙ c.if-is_empty.false) c.in-None.ensures
    (c.in_ok-value.ensures.rest ∙ ap (past (is_word Subtag)) c.new-iter.ensures)
    (c.in_ok-value.ensures.value ∙ ap (λ ps. normal_values (passing (is_word Subtag) ps)) c.new-iter.ensures)

pub returns-in_err-value-clause-out_of_memory : goal.returns-in_err-value-clause-out_of_memory
returns-in_err-value-clause-out_of_memory g c =
    let p = err_from_is_err_and c.from_residual.result c.from_residual.ensures.1 in
    let refused = subst (λ ps. RefusedWithin g.M.Memory.refused
    (length (normal_values (passing (is_word Subtag) ps)))) c.new-iter.ensures
    c.in_err-value.ensures.out_of_memory in
    rw (p.1, p.2) (within_more g.M.Memory.refused _ _ (values_fit c.args.code_units.now) refused)
