use Rattle.std.proofs.Common.{ℕ, ◌≤◌, arith, sym, ◌∙◌}
use Rattle.std.proofs.lemmas.Result.{err_from_is_err_and}
use Rattle.iloc_subtags.specs.Left.{left}
use Rattle.iloc_transform.proofs.RoomLemmas.{passed_on, lang_shorter}
use Rattle.iloc_transform.proofs.TransformLemmas.{no_transform, bad_fields, nothing, whole}
use Rattle.iloc_transform.proofs.transform.fill_transform.Goals as goal

pub returns-in_err-fill_lang-clause-reads : goal.returns-in_err-fill_lang-clause-reads
returns-in_err-fill_lang-clause-reads g c =
    let p = err_from_is_err_and c.from_residual.result c.from_residual.ensures.1 in
    rw (p.1, p.2) (no_transform (left c.args.iter.now) (left c.fill_lang.new.iter) (left c.fill_lang.new.iter)
    c.in_err-fill_lang.field-0.0 c.in_err-fill_lang.ensures.reads)

pub returns-in_err-fill_fields-clause-reads : goal.returns-in_err-fill_fields-clause-reads
returns-in_err-fill_fields-clause-reads g c =
    let p = err_from_is_err_and c.from_residual-in_err-fill_fields.result
    c.from_residual-in_err-fill_fields.ensures.1 in
    rw (p.1, p.2) (bad_fields (left c.args.iter.now) (left c.fill_lang.new.iter) c.fill_lang.new.lang
    c.in_ok-fill_lang.ensures.reads c.in_err-fill_fields.field-0.0 (left c.fill_fields.new.iter)
    (left c.fill_fields.new.iter) c.in_err-fill_fields.ensures.reads)

pub returns-then-is_empty-clause-reads : goal.returns-then-is_empty-clause-reads
returns-then-is_empty-clause-reads g c =
    nothing (left c.args.iter.now) (left c.fill_lang.new.iter) c.fill_lang.new.lang
    c.in_ok-fill_lang.ensures.reads c.fill_fields.new.fields (left c.fill_fields.new.iter)
    c.in_ok-fill_fields.ensures.reads (sym c.is_empty.ensures ∙ c.if-is_empty.true)

pub returns-clause-reads : goal.returns-clause-reads
returns-clause-reads g c = whole (left c.args.iter.now) (left c.fill_lang.new.iter) c.fill_lang.new.lang
    c.in_ok-fill_lang.ensures.reads c.fill_fields.new.fields (left c.fill_fields.new.iter)
    c.in_ok-fill_fields.ensures.reads (sym c.is_empty.ensures ∙ c.if-is_empty.false)

same : (n : ℕ) → n ≤ n
same n = omega arith

pub returns-in_err-fill_lang-clause-out_of_memory : goal.returns-in_err-fill_lang-clause-out_of_memory
returns-in_err-fill_lang-clause-out_of_memory g c =
    let p = err_from_is_err_and c.from_residual.result c.from_residual.ensures.1 in
    rw (p.1, p.2) (passed_on (Unit {0}) (Unit {0}) g.M.Memory.refused _ _ (same _)
    c.in_err-fill_lang.field-0.0 c.in_err-fill_lang.ensures.out_of_memory)

pub returns-in_err-fill_fields-clause-out_of_memory : goal.returns-in_err-fill_fields-clause-out_of_memory
returns-in_err-fill_fields-clause-out_of_memory g c =
    let p = err_from_is_err_and c.from_residual-in_err-fill_fields.result
    c.from_residual-in_err-fill_fields.ensures.1 in
    let room = lang_shorter (left c.args.iter.now) (left c.fill_lang.new.iter) c.fill_lang.new.lang
    c.in_ok-fill_lang.ensures.reads in
    rw (p.1, p.2) (passed_on (Unit {0}) (Unit {0}) g.M.Memory.refused _ _ room c.in_err-fill_fields.field-0.0
    c.in_err-fill_fields.ensures.out_of_memory)
