use Rattle.std.specs.Cow.{cow_str_bytes}
use Rattle.iloc_text_calls.proofs.TellLemmas.{range_refused, text_refused}
use Rattle.iloc_text_calls.proofs.ranges.tell_matches.Goals as goal

pub returns-in-Err : goal.returns-in-Err
returns-in-Err c =
    text_refused c.args.text.now c.args.range.now c.args.same.now c.in-Err.refusal c.from.result
    c.in-Err.ensures.reads c.in-Err.ensures.memory c.from.ensures

pub returns : goal.returns
returns c =
    range_refused c.args.text.now c.args.range.now (cow_str_bytes c.in-Ok.normal) c.args.same.now
    c.in-Err-normal_locale.refusal c.from-in-Err-normal_locale.result c.in-Ok.ensures.reads
    c.in-Err-normal_locale.ensures.reads c.in-Err-normal_locale.ensures.memory
    c.from-in-Err-normal_locale.ensures
