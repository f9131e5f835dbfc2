-- By the mode, the text is compared as its reader answered.
use Rattle.iloc_normalize.specs.declared.Mode.TheVariants.{Langid, Locale, Data}
use Rattle.iloc_calls.proofs.AnswerLemmas.{identifier_read, locale_read, data_read, compared, text_of_identifier, text_of_locale, text_of_data}
use Rattle.iloc_calls.proofs.comparing.strict_cmp.Goals as goal

pub returns-in-Langid : goal.returns-in-Langid
returns-in-Langid c =
    rw c.in-Langid.is (compared Langid c.args.text.now c.args.other.now c.args.order.now c.compare.new.order
    text_of_identifier c.try_from_utf8.result c.compare.result
    (identifier_read c.args.text.now c.try_from_utf8.result c.try_from_utf8.ensures.reads
    c.try_from_utf8.ensures.memory) c.compare.ensures)

pub returns-in-Locale : goal.returns-in-Locale
returns-in-Locale c =
    rw c.in-Locale.is (compared Locale c.args.text.now c.args.other.now c.args.order.now
    c.compare-in-Locale.new.order text_of_locale c.try_from_utf8-in-Locale.result c.compare-in-Locale.result
    (locale_read c.args.text.now c.try_from_utf8-in-Locale.result c.try_from_utf8-in-Locale.ensures.reads
    c.try_from_utf8-in-Locale.ensures.memory) c.compare-in-Locale.ensures)

pub returns-in-Data : goal.returns-in-Data
returns-in-Data c =
    rw c.in-Data.is (compared Data c.args.text.now c.args.other.now c.args.order.now
    c.compare-in-Data.new.order text_of_data c.read_data.result c.compare-in-Data.result
    (data_read c.args.text.now c.read_data.result c.read_data.ensures.reads c.read_data.ensures.memory)
    c.compare-in-Data.ensures)
