-- Two texts mean the same exactly if their normal texts are the same; what is refused means nothing.
use Rattle.std.proofs.Common.{take, inr, refl}
use Rattle.locale_web.proofs.SameLemmas.{bytes_same, refused_apart}
use Rattle.locale_web.proofs.comparing.tell_same.Goals as goal

pub returns-in-Normal-put : goal.returns-in-Normal-put
returns-in-Normal-put c =
    bytes_same c.args.mode (take c.args.len c.args.window.now) (take c.args.other_len c.args.other.now) _ _
    c.args.same.now c.from-in-Normal-put.result c.are_same.result
    c.in-Normal.ensures.1 c.in-Normal-put.ensures.1 c.from-in-Normal-put.ensures c.are_same.ensures

pub returns-in-Refused-put : goal.returns-in-Refused-put
returns-in-Refused-put c = (
  (_, c.in-Normal.ensures.1),
  inr (
    refl,
    refused_apart c.args.mode (take c.args.len c.args.window.now) (take c.args.other_len c.args.other.now)
        c.in-Refused-put.field-0 c.in-Refused-put.ensures,
  ),
)
