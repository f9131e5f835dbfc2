use Rattle.std.proofs.Common.{take}
use Rattle.locale_web.proofs.TextLemmas.{match_told, range_refused}
use Rattle.locale_web.proofs.matching.tell_matches.Goals as goal

pub returns-in-Normal-put : goal.returns-in-Normal-put
returns-in-Normal-put c =
    match_told (take c.args.len c.args.window.now) (take c.args.range_len c.args.range.now) _ _
    c.args.same.now c.from-in-Normal-put.result c.matches.result
    c.in-Normal.ensures.1 c.in-Normal-put.ensures.1 c.from-in-Normal-put.ensures c.matches.ensures

pub returns-in-Refused-put : goal.returns-in-Refused-put
returns-in-Refused-put c =
    range_refused (take c.args.len c.args.window.now) (take c.args.range_len c.args.range.now) _
    c.args.same.now c.in-Refused-put.error c.from-in-Refused-put.result
    c.in-Normal.ensures.1 c.in-Refused-put.ensures c.from-in-Refused-put.ensures
