use Rattle.std.proofs.Common.{take}
use Rattle.locale_web.proofs.TextLemmas.{part_refused}
use Rattle.locale_web.proofs.texts.tell_part.Goals as goal

pub returns-in-Refused : goal.returns-in-Refused
returns-in-Refused c =
    part_refused c.args.mode (take c.args.len c.args.window.now) c.args.part c.args.buffer.now
    c.in-Refused.error c.from.result c.in-Refused.ensures c.from.ensures
