use Rattle.std.proofs.Common.{◌∙◌, ap, sym, refl}
use Rattle.iloc_spec_grammar.specs.Syntax.{join, dashes}
use Rattle.iloc_word_list.proofs.PrintLemmas.{joined_on, joined_none}
use Rattle.iloc_spec_grammar.proofs.PartTexts.{join-dashes}
use Rattle.iloc_word_list.proofs.printing.are_joined.Goals as goal

pub returns-in-Some-after_subtag : goal.returns-in-Some-after_subtag
returns-in-Some-after_subtag c =
    let on =
    joined_on c.in-Some.subtag.now c.in-Some-after_subtag.rest.now c.args.bytes.now c.in-Some.others.now
    c.in-Some-after_subtag.ensures.some in
    let subtags = ap join c.in-Some.ensures.cases.0 in (
      λ h. subtags ∙ on.0 (c.are_dashed.ensures.0 h),
      λ h. c.are_dashed.ensures.1 (on.1 (sym subtags ∙ h)),
    )

pub returns-in_default : goal.returns-in_default
returns-in_default c =
    joined_none c.args.subtags.now c.args.bytes.now c.is_empty.result c.in_default.ensures.cases
    c.is_empty.ensures

pub returns-in-None : goal.returns-in-None
returns-in-None c =
    let joined = ap join c.in-Some.ensures.cases.0 ∙ join-dashes c.in-Some.subtag.now c.in-Some.others.now in
    (λ h. cc, λ h. absurd (c.in-None.ensures.none refl (dashes c.in-Some.others.now) (sym h ∙ joined)))
