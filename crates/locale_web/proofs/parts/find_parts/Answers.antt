-- The normal text is that of the locale that the text means.
use Rattle.std.proofs.Common.{take}
use Rattle.iloc_text_calls.proofs.TellLemmas.{locale_of_normal}
use Rattle.locale_web.proofs.LocaleLemmas.{normal_text_of, parts_written}
use Rattle.locale_web.proofs.parts.find_parts.Goals as goal

pub hand_out_rows-requires : goal.hand_out_rows-requires
hand_out_rows-requires c =
    let h = locale_of_normal c.args.mode (take c.args.len c.args.window.now) _ c.in-Normal.ensures.1 in
    (h.locale, normal_text_of h)

pub returns-in-Normal : goal.returns-in-Normal
returns-in-Normal c =
    let n = c.in-Normal.ensures in
    let h = locale_of_normal c.args.mode (take c.args.len c.args.window.now) _ n.1 in
    parts_written c.put.new.to c.in-Normal.long c.args.table.now c.hand_out_rows.new.table
    c.hand_out_rows.new.needed
    c.hand_out_rows.result h n.0 n.1 (c.hand_out_rows.ensures h.locale (normal_text_of h))
