-- The number is that of the set.
use Rattle.std.proofs.Common.{subst, sym}
use Rattle.iloc_text_calls.specs.Advice.{AreKindsAt, kinds_of}
use Rattle.iloc_text_calls.proofs.AdviceLemmas.{kinds_told}
use Rattle.iloc_text_calls.proofs.advice.tell_kinds.Goals as goal

pub returns : goal.returns
returns g c =
    subst (λ n. AreKindsAt c.args.mode c.args.text.now c.args.place (kinds_of n)) (sym c.from.ensures)
    (kinds_told c.args.mode c.args.text.now c.args.place c.expected_in.result c.expected_in.ensures.all
    c.expected_in.ensures.exact)
