use Rattle.std.proofs.Common.{◌≡◌, ℕ, length, length-take-le, subst, take, arith}
use Rattle.iloc_spec_grammar.specs.Syntax.{languages}
use Rattle.iloc_spec_grammar.specs.Values.{identifier_text}
use Rattle.iloc_spec_grammar.proofs.AnySteps.{length-identifier_means}
use Rattle.iloc_normalize.specs.Answered.{HasRefusal, IsNormalWritten}
use Rattle.iloc_normalize.specs.declared.Mode.TheVariants.{Langid}
use Rattle.iloc_normalize.specs.declared.writing.Written.TheVariants.{Normal}
use Rattle.iloc_normalize.proofs.writing.identifier_in.Goals as goal

pub outline_identifier-requires-clause-begins : goal.outline_identifier-requires-clause-begins
outline_identifier-requires-clause-begins g c = grind arith

pub copy_outline-requires-clause-gives : goal.copy_outline-requires-clause-gives
copy_outline-requires-clause-gives g c =
    let t = take c.len-len.result c.args.text.bytes.now in
    let (i, m, s) = c.in-Normal.ensures.outlined in
    let long : length (identifier_text i) ≡ length t = length-identifier_means languages t i m in
    record { normal = identifier_text i; gives = s; few = omega arith }

pub returns-in-Normal-clause-written : goal.returns-in-Normal-clause-written
returns-in-Normal-clause-written g c =
    let w = c.args.text.bytes.now in
    let len = c.len-len.result in
    let (i, m, s) = c.in-Normal.ensures.outlined in
    let whole : length (take len w) ≡ len = length-take-le len w (omega (arith, c.len-len.ensures)) in
    subst (λ (k : ℕ). IsNormalWritten Langid (take k w) c.copy_outline.new.to (Normal c.copy_outline.result))
    c.len-len.ensures (
      omega (arith, whole, c.copy_outline.ensures.within),
      omega (arith, whole, c.len-len.ensures, c.args.text.room, c.requires.room),
      (i, m, c.copy_outline.ensures.text (identifier_text i) s),
    )

pub returns-in-Refused-clause-written : goal.returns-in-Refused-clause-written
returns-in-Refused-clause-written g c = c.refused.ensures.written Langid _ _ (grind arith)

pub returns-in-Refused-clause-refused : goal.returns-in-Refused-clause-refused
returns-in-Refused-clause-refused g c = λ e. absurd (c.refused.ensures.some Langid _
    (subst (λ (k : ℕ). HasRefusal Langid (take k c.args.text.bytes.now) c.in-Refused.error) c.len-len.ensures
    c.in-Refused.ensures.outlined) e)
