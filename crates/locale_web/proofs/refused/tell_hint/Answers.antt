use Rattle.std.proofs.Common.{subst, ◌∙◌}
use Rattle.iloc_calls.specs.Answers.{HandsOut}
use Rattle.locale_web.proofs.TextLemmas.{hint_told}
use Rattle.locale_web.proofs.refused.tell_hint.Goals as goal

pub returns-in-Some : goal.returns-in-Some
returns-in-Some c =
    hint_told c.args.mode c.args.text.now c.in-Some.found c.args.buffer.now c.hand_out_bytes.new.buffer
    c.hand_out_bytes.new.needed c.hand_out_bytes.result ((c.hint.ensures c.in-Some.found).0 c.in-Some.is)
    (subst (λ t. HandsOut t c.args.buffer.now c.hand_out_bytes.new.buffer c.hand_out_bytes.new.needed
    c.hand_out_bytes.result) (c.as_bytes.ensures.value ∙ c.words.ensures) c.hand_out_bytes.ensures)
