use Rattle.std.proofs.Common.{subst, sym}
use Rattle.iloc_text_calls.specs.Advice.{IsHintNumber}
use Rattle.iloc_text_calls.proofs.AdviceLemmas.{hint_told}
use Rattle.iloc_text_calls.proofs.advice.tell_hint.Goals as goal

pub returns-in-Some : goal.returns-in-Some
returns-in-Some g c =
    subst (IsHintNumber c.args.mode c.args.text.now) (sym c.number_of.ensures)
    (hint_told c.args.mode c.args.text.now c.hint_in.result c.in-Some.hint c.hint_in.ensures c.in-Some.is)
