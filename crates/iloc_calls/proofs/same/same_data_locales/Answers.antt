use Rattle.std.proofs.Common.{refl}
use Rattle.iloc_data.specs.DataValue.{value_of}
use Rattle.iloc_calls.proofs.AnswerLemmas.{same_data_read, other_data_locale, unprinted_data_locale}
use Rattle.iloc_calls.proofs.same.same_data_locales.Goals as goal

pub returns-in-Err-read_data : goal.returns-in-Err-read_data
returns-in-Err-read_data c =
    other_data_locale c.args.text.now c.args.other.now c.args.same.now 0 (value_of c.in-Ok.data)
    c.in-Err-read_data.field-0 c.in-Ok.ensures.reads c.in-Err-read_data.ensures.reads
    c.in-Err-read_data.ensures.memory refl

pub returns-in-Ok-order_of : goal.returns-in-Ok-order_of
returns-in-Ok-order_of c =
    same_data_read c.args.text.now c.args.other.now c.args.same.now c.from-in-Ok-order_of.result
    (value_of c.in-Ok.data) (value_of c.in-Ok-read_data.second) c.in-Ok-order_of.order c.is_eq.result
    c.in-Ok.ensures.reads c.in-Ok-read_data.ensures.reads c.in-Ok-order_of.ensures c.is_eq.ensures
    c.from-in-Ok-order_of.ensures

pub returns-in-Err-order_of : goal.returns-in-Err-order_of
returns-in-Err-order_of c =
    unprinted_data_locale c.args.text.now c.args.other.now c.args.same.now (value_of c.in-Ok-read_data.second)
    c.in-Err-order_of.status c.in-Ok-read_data.ensures.reads c.in-Err-order_of.ensures.0
    c.in-Err-order_of.ensures.1
