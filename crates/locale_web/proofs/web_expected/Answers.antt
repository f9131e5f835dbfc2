-- The mode that is found is the one of the number.
use Rattle.std.proofs.Common.{subst}
use Rattle.iloc_calls.proofs.ByNumbers.{by_mode}
use Rattle.locale_web.specs.Refused.{AreBitsOfKinds}
use Rattle.locale_web.proofs.web_expected.Goals as goal

pub returns-in-Some : goal.returns-in-Some
returns-in-Some c =
    by_mode c.args.mode c.mode_of.result c.in-Some.mode _ _ c.number.result c.mode_of.ensures c.in-Some.is (
      c.number.ensures,
      subst (λ t. AreBitsOfKinds c.in-Some.mode t c.args.place c.kinds_at.result) c.text_end.ensures.same
          c.kinds_at.ensures,
    )
