use Rattle.std.proofs.Common.{◌≡◌, ◌∷◌, ◌∙◌, ap, sym}
use Rattle.iloc_spec_grammar.specs.Syntax.{dashes}
use Rattle.iloc_word_list.proofs.PrintLemmas.{dashed_on}
use Rattle.iloc_word_list.proofs.printing.+are_dashed.Goals as goal

pub returns-in-Some-after_subtag : goal.returns-in-Some-after_subtag
returns-in-Some-after_subtag t c =
    let after = c.in-Some-eq45-default.after.now in
    let on = dashed_on c.in-Some.subtag.now c.in-Some-after_subtag.rest.now after c.in-Some.others.now
    c.in-Some-after_subtag.ensures.some in
    let subtags = ap dashes c.in-Some.ensures.cases.0 in
    let bytes : c.args.bytes.now ≡ 45 ∷ after = c.in-Some-eq45-default.ensures.cases.0
    ∙ ap (λ b. b ∷ after) c.in-Some-eq45-default.field-0-0-test in (
      λ h. subtags ∙ on.0 (c.are_dashed.ensures.0 h) ∙ sym bytes,
      λ h. c.are_dashed.ensures.1 (on.1 (sym subtags ∙ h ∙ bytes)),
    )
