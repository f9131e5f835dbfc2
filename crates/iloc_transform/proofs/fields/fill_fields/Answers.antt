use Rattle.std.proofs.Common.{List}
use Rattle.std.proofs.lemmas.Result.{err_from_is_err_and}
use Rattle.iloc_spec_grammar.specs.Syntax.{Text}
use Rattle.iloc_subtags.specs.Left.{left}
use Rattle.iloc_memory.proofs.Within.{within_more}
use Rattle.iloc_word_list.proofs.RoomLemmas.{allows}
use Rattle.iloc_transform.proofs.RoomLemmas.{passed_on}
use Rattle.iloc_transform.proofs.FieldsLemmas.{takes_field, refuses, shorter, wants_memory, field_room, value_room}
use Rattle.iloc_transform.proofs.fields.fill_fields.Goals as goal

pub returns-in_err-value-clause-reads : goal.returns-in_err-value-clause-reads
returns-in_err-value-clause-reads g c =
    let p = err_from_is_err_and c.from_residual.result c.from_residual.ensures.1 in
    rw (p.1, p.2)
    (refuses (left c.args.iter.now) (left c.keys.iter) c.keys.fields c.in-Some.key (left c.take_word.new.iter)
    (left c.read_front.new.iter) (left c.read_front.new.iter) c.in_err-value.field-0.0 c.keys.invariant
    c.in-Some.ensures.word c.in-Some.ensures.rest c.in_err-value.ensures.reads)

pub keys-smaller : goal.keys-smaller
keys-smaller g c = shorter (left c.keys.iter) (left c.take_word.new.iter) (left c.read_front.new.iter)
    c.in-Some.key c.in-Some.ensures.word c.in-Some.ensures.rest c.in_ok-value.ensures.reads.2

pub keys-preserved : goal.keys-preserved
keys-preserved g c = takes_field (left c.args.iter.now) (left c.keys.iter) c.keys.fields c.in-Some.key
    (left c.take_word.new.iter) (left c.read_front.new.iter) c.in_ok-value.value c.add.new.self
    c.keys.invariant c.in-Some.ensures.word c.in-Some.ensures.rest c.in_ok-value.ensures.reads
    c.in_ok-add.ensures.ok

pub returns-in_err-add-clause-reads : goal.returns-in_err-add-clause-reads
returns-in_err-add-clause-reads g c =
    let p = err_from_is_err_and c.from_residual-in_err-add.result c.from_residual-in_err-add.ensures.1 in
    rw (p.1, p.2) (wants_memory (left c.args.iter.now) (left c.keys.iter) c.keys.fields c.in-Some.key
    (left c.take_word.new.iter) c.keys.invariant c.in-Some.ensures.word c.in-Some.ensures.rest
    c.in_ok-value.ensures.reads.0)

pub returns-in_err-value-clause-out_of_memory : goal.returns-in_err-value-clause-out_of_memory
returns-in_err-value-clause-out_of_memory g c =
    let p = err_from_is_err_and c.from_residual.result c.from_residual.ensures.1 in
    let room = value_room (left c.args.iter.now) (left c.keys.iter) c.keys.fields c.in-Some.key
    (left c.take_word.new.iter) c.keys.invariant c.in-Some.ensures.word c.in-Some.ensures.rest in
    rw (p.1, p.2) (passed_on (List Text) (Unit {0}) g.M.Memory.refused _ _ room c.in_err-value.field-0.0
    c.in_err-value.ensures.out_of_memory)

pub returns-in_err-add-clause-out_of_memory : goal.returns-in_err-add-clause-out_of_memory
returns-in_err-add-clause-out_of_memory g c =
    let room = field_room (left c.args.iter.now) (left c.keys.iter) c.keys.fields c.in-Some.key
    c.keys.invariant c.in-Some.ensures.word in
    allows _ _ (within_more g.M.Memory.refused _ _ room c.in_err-add.ensures.out_of_memory)
