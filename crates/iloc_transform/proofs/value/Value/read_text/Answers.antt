use Rattle.std.proofs.Common.{List}
use Rattle.std.proofs.lemmas.Result.{err_from_is_err_and}
use Rattle.iloc_spec_grammar.specs.Syntax.{Text}
use Rattle.iloc_subtags.specs.Left.{left}
use Rattle.iloc_transform.proofs.RoomLemmas.{passed_on, values_fit}
use Rattle.iloc_transform.proofs.ValueLemmas.{value_gives, value_more_left, value_refuses, value_memory}
use Rattle.iloc_transform.proofs.value.Value.read_text.Goals as goal

pub returns-in_err-value-clause-reads : goal.returns-in_err-value-clause-reads
returns-in_err-value-clause-reads g c =
    let p = err_from_is_err_and c.from_residual.result c.from_residual.ensures.1 in
    rw (p.1, p.2) (value_refuses c.args.code_units.now (left c.new-iter.result) c.new-iter.ensures
    (left c.read_front.new.iter) c.in_err-value.field-0.0 c.in_err-value.ensures.reads)

pub returns-in_err-value-clause-memory : goal.returns-in_err-value-clause-memory
returns-in_err-value-clause-memory g c =
    let p = err_from_is_err_and c.from_residual.result c.from_residual.ensures.1 in
    rw (p.1, p.2) (value_memory c.args.code_units.now (left c.new-iter.result) c.new-iter.ensures
    (left c.read_front.new.iter) c.in_err-value.field-0.0 c.in_err-value.ensures.reads)

pub returns-in-Some-clause-reads : goal.returns-in-Some-clause-reads
returns-in-Some-clause-reads g c = value_more_left c.args.code_units.now (left c.new-iter.result)
    c.new-iter.ensures (left c.read_front.new.iter) c.in_ok-value.value c.in-Some.field-0.now
    c.in_ok-value.ensures.reads c.in-Some.ensures

pub returns-in-None-clause-reads : goal.returns-in-None-clause-reads
returns-in-None-clause-reads g c =
    value_gives c.args.code_units.now (left c.new-iter.result) c.new-iter.ensures
    (left c.read_front.new.iter) c.in_ok-value.value c.in_ok-value.ensures.reads c.in-None.ensures

pub returns-in_err-value-clause-out_of_memory : goal.returns-in_err-value-clause-out_of_memory
returns-in_err-value-clause-out_of_memory g c =
    let p = err_from_is_err_and c.from_residual.result c.from_residual.ensures.1 in
    rw (p.1, p.2) (passed_on (List Text) (List Text) g.M.Memory.refused _ _
    (values_fit c.args.code_units.now (left c.new-iter.result) c.new-iter.ensures) c.in_err-value.field-0.0
    c.in_err-value.ensures.out_of_memory)
