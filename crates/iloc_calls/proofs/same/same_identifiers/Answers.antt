use Rattle.std.proofs.Common.{◌∙◌, ap}
use Rattle.std.specs.Ordering.{is_eq}
use Rattle.iloc_langid.specs.Reads.{value_of}
use Rattle.iloc_calls.proofs.AnswerLemmas.{same_identifiers_read, other_identifier}
use Rattle.iloc_calls.proofs.same.same_identifiers.Goals as goal

pub returns-in-Ok-try_from_utf8 : goal.returns-in-Ok-try_from_utf8
returns-in-Ok-try_from_utf8 c =
    same_identifiers_read c.args.text.now c.args.other.now c.args.same.now c.from-in-Ok-try_from_utf8.result
    (value_of c.in-Ok.identifier) (value_of c.in-Ok-try_from_utf8.other) c.is_eq.result c.in-Ok.ensures.reads
    c.in-Ok-try_from_utf8.ensures.reads (c.is_eq.ensures ∙ ap is_eq c.total_cmp.ensures)
    c.from-in-Ok-try_from_utf8.ensures

pub returns : goal.returns
returns c =
    other_identifier c.args.text.now c.args.other.now c.args.same.now c.tell_refused.new.same
    (value_of c.in-Ok.identifier) c.in-Err-try_from_utf8.refusal c.tell_refused.result c.in-Ok.ensures.reads
    c.in-Err-try_from_utf8.ensures.reads c.in-Err-try_from_utf8.ensures.memory c.tell_refused.ensures
