use Rattle.std.proofs.Common.{Some, None, refl, subst, sym}
use Rattle.iloc_calls.specs.Answers.{Tells}
use Rattle.iloc_calls.specs.declared.status.Status.{Status}
use Rattle.locale_web.proofs.TextLemmas.{part_told}
use Rattle.locale_web.proofs.texts.hand_out_part.Goals as goal

pub returns-in-Some : goal.returns-in-Some
returns-in-Some c = λ mode t h.
    part_told mode t c.args.normal.now c.args.part (Some c.in-Some.found.now) c.args.buffer.now
    c.hand_out_bytes.new.buffer c.hand_out_bytes.new.needed c.hand_out_bytes.result h c.in-Some.ensures
    c.hand_out_bytes.ensures

pub returns-in-None : goal.returns-in-None
returns-in-None c = λ mode t h.
    part_told mode t c.args.normal.now c.args.part None c.args.buffer.now c.args.buffer.now
    c.hand_out_none.new.needed c.hand_out_none.result h c.in-None.ensures
    (subst (λ (s : Status). Tells None c.args.buffer.now c.args.buffer.now c.hand_out_none.new.needed s)
    (sym c.hand_out_none.ensures.status) (c.hand_out_none.ensures.needed, refl))
