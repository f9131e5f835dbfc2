use Rattle.std.proofs.Common.{◌≡◌, ◌≤◌, ◌<◌, ℕ, length, sym, ap, ◌∙◌, arith, true, false, true≢false, subst}
use Rattle.std.proofs.lemmas.Result.{err_from_is_err_and}
use Rattle.iloc_memory.specs.Refusals.{RefusedWithin}
use Rattle.iloc_memory.proofs.Within.{within_more}
use Rattle.iloc_spec_parts.specs.Fronts.{attributes_front, attributes_read}
use Rattle.iloc_unicode.proofs.RoomLemmas.{attributes_fit}
use Rattle.iloc_unicode.proofs.attributes.Attributes.read_text.Goals as goal

not_few : (n : ℕ) → (n ≤ 4 → ⊥) → 4 < n
not_few n h = omega (arith, h)

refused_not : false ≡ true → ⊥
refused_not h = true≢false (sym h)

pub returns-in_err-try_from_iter-clause-reads : goal.returns-in_err-try_from_iter-clause-reads
returns-in_err-try_from_iter-clause-reads g c =
    let p = err_from_is_err_and c.from_residual.result c.from_residual.ensures.1 in
    rw (p.1, p.2) tt

pub returns-in_err-try_from_iter-clause-memory : goal.returns-in_err-try_from_iter-clause-memory
returns-in_err-try_from_iter-clause-memory g c =
    let p = err_from_is_err_and c.from_residual.result c.from_residual.ensures.1 in
    rw (p.1, p.2) (not_few _ (λ few. refused_not (c.in_err-try_from_iter.ensures.succeeds
    (subst (λ ps. length (attributes_read ps) ≤ 4) (sym c.new-iter.ensures) few))))

pub returns-clause-reads : goal.returns-clause-reads
returns-clause-reads g c = c.in_ok-try_from_iter.ensures.value ∙ ap attributes_read c.new-iter.ensures

pub returns-in_err-try_from_iter-clause-out_of_memory :
    goal.returns-in_err-try_from_iter-clause-out_of_memory
returns-in_err-try_from_iter-clause-out_of_memory g c =
    let p = err_from_is_err_and c.from_residual.result c.from_residual.ensures.1 in
    let refused = subst (λ ps. RefusedWithin g.M.Memory.refused (length (attributes_front ps)))
    c.new-iter.ensures c.in_err-try_from_iter.ensures.out_of_memory in
    rw (p.1, p.2) (within_more g.M.Memory.refused _ _ (attributes_fit c.args.code_units.now) refused)
