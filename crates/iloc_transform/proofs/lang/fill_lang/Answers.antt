use Rattle.std.proofs.Common.{ℕ, ◌≤◌, ◌-◌, arith}
use Rattle.std.proofs.lemmas.Result.{err_from_is_err_and}
use Rattle.iloc_subtags.specs.Left.{left}
use Rattle.iloc_transform.proofs.RoomLemmas.{passed_on}
use Rattle.iloc_transform.proofs.TransformLemmas.{front_refused, no_lang, other_lang, some_lang}
use Rattle.iloc_transform.proofs.lang.fill_lang.Goals as goal

pub returns-in_default-clause-reads : goal.returns-in_default-clause-reads
returns-in_default-clause-reads g c = rw c.requires (no_lang (left c.args.iter.now) c.in_default.ensures)

pub returns-in_ok-fill_front-in-Ok-clause-reads : goal.returns-in_ok-fill_front-in-Ok-clause-reads
returns-in_ok-fill_front-in-Ok-clause-reads g c =
    some_lang (left c.args.iter.now) (left c.fill_front.new.iter)
    c.fill_front.new.identifier c.in_ok-fill_front-in-Ok.ensures.reads

pub returns-in_err-fill_front-in-Ok-clause-reads : goal.returns-in_err-fill_front-in-Ok-clause-reads
returns-in_err-fill_front-in-Ok-clause-reads g c =
    let p = err_from_is_err_and c.from_residual.result c.from_residual.ensures.1 in
    rw (p.1, p.2) (front_refused _ c.in-Ok.field-0 c.in-Some.piece.now (left c.args.iter.now)
    (left c.fill_front.new.iter) (left c.fill_front.new.iter) c.in_err-fill_front-in-Ok.field-0.0
    c.in-Some.ensures c.in-Ok.ensures c.in_err-fill_front-in-Ok.ensures.reads)

pub returns-in-Err-clause-reads : goal.returns-in-Err-clause-reads
returns-in-Err-clause-reads g c =
    rw c.requires (other_lang _ c.in-Err.field-0 (left c.args.iter.now) c.in-Some.piece.now
    c.in-Some.ensures c.in-Err.ensures)

less : (n : ℕ) → n - 1 ≤ n
less n = omega arith

pub returns-in_err-fill_front-in-Ok-clause-out_of_memory :
    goal.returns-in_err-fill_front-in-Ok-clause-out_of_memory
returns-in_err-fill_front-in-Ok-clause-out_of_memory g c =
    let p = err_from_is_err_and c.from_residual.result c.from_residual.ensures.1 in
    rw (p.1, p.2) (passed_on (Unit {0}) (Unit {0}) g.M.Memory.refused _ _ (less _)
    c.in_err-fill_front-in-Ok.field-0.0 c.in_err-fill_front-in-Ok.ensures.out_of_memory)
