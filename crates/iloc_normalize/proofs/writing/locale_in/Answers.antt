use Rattle.std.proofs.Common.{◌≡◌, ℕ, length, length-take-le, subst, take, arith}
use Rattle.iloc_spec_grammar.specs.Values.{text}
use Rattle.iloc_spec_grammar.proofs.AnySteps.{shortest}
use Rattle.iloc_normalize.specs.Answered.{HasRefusal, IsNormalWritten}
use Rattle.iloc_normalize.specs.declared.Mode.TheVariants.{Locale}
use Rattle.iloc_normalize.specs.declared.writing.Written.TheVariants.{Normal}
use Rattle.iloc_normalize.proofs.writing.locale_in.Goals as goal

pub outline_locale-requires-clause-begins : goal.outline_locale-requires-clause-begins
outline_locale-requires-clause-begins g c = grind arith

pub copy_outline-requires-clause-gives : goal.copy_outline-requires-clause-gives
copy_outline-requires-clause-gives g c = let (M, m, s) = c.in-Normal.ensures.outlined in search shortest

pub returns-in-Normal-clause-written : goal.returns-in-Normal-clause-written
returns-in-Normal-clause-written g c =
    let w = c.args.text.bytes.now in
    let len = c.len-len.result in
    let (M, m, s) = c.in-Normal.ensures.outlined in
    let whole : length (take len w) ≡ len = length-take-le len w (omega (arith, c.len-len.ensures)) in
    subst (λ (k : ℕ). IsNormalWritten Locale (take k w) c.copy_outline.new.to (Normal c.copy_outline.result))
    c.len-len.ensures (
      omega (arith, whole, c.copy_outline.ensures.within),
      omega (arith, whole, c.len-len.ensures, c.args.text.room, c.requires.room),
      (M, m, c.copy_outline.ensures.text (text M) s),
    )

pub returns-in-Refused-clause-written : goal.returns-in-Refused-clause-written
returns-in-Refused-clause-written g c = c.refused.ensures.written Locale _ _ (grind arith)

pub returns-in-Refused-clause-refused : goal.returns-in-Refused-clause-refused
returns-in-Refused-clause-refused g c = λ e. absurd (c.refused.ensures.some Locale _
    (subst (λ (k : ℕ). HasRefusal Locale (take k c.args.text.bytes.now) c.in-Refused.error) c.len-len.ensures
    c.in-Refused.ensures.outlined) e)
