-- By the mode, both texts are ordered as its reader answered.
use Rattle.iloc_normalize.specs.declared.Mode.TheVariants.{Langid, Locale, Data}
use Rattle.iloc_calls.proofs.AnswerLemmas.{identifier_read, locale_read, data_read, ordered, text_of_identifier, text_of_locale, text_of_data}
use Rattle.iloc_calls.proofs.comparing.compare_both.Goals as goal

pub returns-in-Langid : goal.returns-in-Langid
returns-in-Langid c =
    rw c.in-Langid.is (ordered Langid c.args.text.now c.args.other.now c.args.order.now c.order_read.new.order
    text_of_identifier c.order_read.result c.try_from_utf8.result c.try_from_utf8-in-Langid.result
    (identifier_read c.args.text.now c.try_from_utf8.result c.try_from_utf8.ensures.reads
    c.try_from_utf8.ensures.memory)
    (identifier_read c.args.other.now c.try_from_utf8-in-Langid.result c.try_from_utf8-in-Langid.ensures.reads
    c.try_from_utf8-in-Langid.ensures.memory) c.order_read.ensures)

pub returns-in-Locale : goal.returns-in-Locale
returns-in-Locale c =
    rw c.in-Locale.is (ordered Locale c.args.text.now c.args.other.now c.args.order.now
    c.order_read-in-Locale.new.order text_of_locale c.order_read-in-Locale.result
    c.try_from_utf8-in-Locale.result c.try_from_utf8-in-Locale-2.result
    (locale_read c.args.text.now c.try_from_utf8-in-Locale.result c.try_from_utf8-in-Locale.ensures.reads
    c.try_from_utf8-in-Locale.ensures.memory)
    (locale_read c.args.other.now c.try_from_utf8-in-Locale-2.result c.try_from_utf8-in-Locale-2.ensures.reads
    c.try_from_utf8-in-Locale-2.ensures.memory) c.order_read-in-Locale.ensures)

pub returns-in-Data : goal.returns-in-Data
returns-in-Data c =
    rw c.in-Data.is
    (ordered Data c.args.text.now c.args.other.now c.args.order.now c.order_read-in-Data.new.order
    text_of_data c.order_read-in-Data.result c.read_data.result c.read_data-in-Data.result
    (data_read c.args.text.now c.read_data.result c.read_data.ensures.reads c.read_data.ensures.memory)
    (data_read c.args.other.now c.read_data-in-Data.result c.read_data-in-Data.ensures.reads
    c.read_data-in-Data.ensures.memory) c.order_read-in-Data.ensures)
