-- By the mode, the text is judged as its reader answered.
use Rattle.iloc_normalize.specs.declared.Mode.TheVariants.{Langid, Locale}
use Rattle.iloc_calls.proofs.AnswerLemmas.{identifier_read, locale_read, judged, text_of_identifier, text_of_locale}
use Rattle.iloc_calls.proofs.answers.judge_parsed.Goals as goal

pub returns-in-Langid : goal.returns-in-Langid
returns-in-Langid c =
    rw c.in-Langid.is
    (judged Langid c.args.text.now text_of_identifier c.try_from_utf8.result c.outcome.result
    (identifier_read c.args.text.now c.try_from_utf8.result c.try_from_utf8.ensures.reads
    c.try_from_utf8.ensures.memory) c.outcome.ensures)

pub returns-in-Locale : goal.returns-in-Locale
returns-in-Locale c =
    rw c.in-Locale.is
    (judged Locale c.args.text.now text_of_locale c.try_from_utf8-in-Locale.result c.outcome-in-Locale.result
    (locale_read c.args.text.now c.try_from_utf8-in-Locale.result c.try_from_utf8-in-Locale.ensures.reads
    c.try_from_utf8-in-Locale.ensures.memory) c.outcome-in-Locale.ensures)
