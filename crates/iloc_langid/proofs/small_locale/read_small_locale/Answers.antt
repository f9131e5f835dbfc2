use Rattle.std.proofs.Common.{[], Err, rules, subst, sym}
use Rattle.std.proofs.lemmas.Result.{err_from_is_err_and}
use Rattle.iloc_spec_grammar.specs.Syntax.{pieces}
use Rattle.iloc_langid.specs.PlainReads.{IsPlainFront}
use Rattle.iloc_langid.specs.SmallLocaleReads.{SmallLocaleTextReads}
use Rattle.iloc_langid.proofs.PlainLemmas.{plain_small, no_language_small}
use Rattle.iloc_langid.proofs.small_locale.read_small_locale.Goals as goal

pub returns-in-Some : goal.returns-in-Some
returns-in-Some c =
    let f : IsPlainFront (pieces c.args.code_units.now) [] c.in-Some.plain = search rules in
    plain_small c.args.code_units.now c.in-Some.plain f

pub returns-in_err-plain : goal.returns-in_err-plain
returns-in_err-plain c =
    let p = err_from_is_err_and c.from_residual.result c.from_residual.ensures.1 in
    let r = c.in_err-plain.ensures.refused in
    rw (p.1, p.2) (subst (λ e. SmallLocaleTextReads c.args.code_units.now (Err e)) (sym r.0)
    (no_language_small c.args.code_units.now r.1))
