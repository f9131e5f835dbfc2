use Rattle.std.proofs.Common.{Some, ap, drop, subst, ◌∙◌, sym}
use Rattle.iloc_text_parts.specs.Parts.{IsPart}
use Rattle.iloc_text_parts.specs.declared.Part.{Part}
use Rattle.iloc_text_parts.proofs.CutLemmas.{first_is}
use Rattle.iloc_text_parts.proofs.KeywordLemmas.{drop-dashes}
use Rattle.iloc_text_parts.proofs.part_of.Goals as goal

pub returns-in-Language : goal.returns-in-Language
returns-in-Language c = λ M w e.
    subst (λ (p : Part). IsPart p M (Some c.split.result.0.now)) (sym c.in-Language.is)
    (ap Some (c.split.ensures.piece ∙ first_is M w c.args.normal.now e))

pub returns-in-Variants : goal.returns-in-Variants
returns-in-Variants c = λ M w e.
    subst (λ (p : Part). IsPart p M (Some c.without_hyphen.result.now)) (sym c.in-Variants.is)
    (ap Some (c.without_hyphen.ensures
    ∙ ap (drop 1) (c.cut_apart-in-Variants.ensures.parts M w e).variants ∙ drop-dashes M.id.variants))
