use Rattle.std.proofs.Common.{arith, sym, subst, ◌∙◌, true≢false, IfSome}
use Rattle.iloc_spec_grammar.specs.Syntax.{Text}
use Rattle.iloc_pieces.specs.Normal.{IsPlainText}
use Rattle.iloc_normalize.specs.NormalTexts.{IsNormalizedAs}
use Rattle.iloc_normalize.proofs.AsciiLemmas.{identifier_utf8}
use Rattle.iloc_normalize.proofs.PlainAnswers.{plain_normal}
use Rattle.iloc_normalize.proofs.normal_text.normalize_short.Goals as goal

pub from_utf8_unchecked-requires : goal.from_utf8_unchecked-requires
from_utf8_unchecked-requires g c = grind (arith, identifier_utf8)

pub own_front-requires-clause-utf8 : goal.own_front-requires-clause-utf8
own_front-requires-clause-utf8 g c = grind (arith, identifier_utf8)

pub returns-then-text-clause-normal : goal.returns-then-text-clause-normal
returns-then-text-clause-normal g c = grind (arith, plain_normal)

pub returns-in-Ok-clause-normal : goal.returns-in-Ok-clause-normal
returns-in-Ok-clause-normal g c = grind (arith, plain_normal)

pub returns-in-Err-clause-normal : goal.returns-in-Err-clause-normal
returns-in-Err-clause-normal g c =
    let h = subst (λ (t : Text). IsPlainText t c.in-Some.text) c.load-lanes.ensures c.in-Some.ensures in
    λ mode. (
      _,
      plain_normal mode c.args.input.now c.in-Some.text.plain h.plain,
      λ e. absurd (true≢false (sym (h.exactly.1 e) ∙ c.if-text.false)),
    )

pub returns-in_default-clause-normal : goal.returns-in_default-clause-normal
returns-in_default-clause-normal g c =
    λ mode. subst (λ (t : Text). IfSome c.refuse_short.result (IsNormalizedAs mode t)) c.load-lanes.ensures
    (c.refuse_short.ensures.normal mode)
