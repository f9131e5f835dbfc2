use Rattle.std.proofs.Common.{◌∙◌, ap, sym}
use Rattle.iloc_spec_grammar.specs.Syntax.{join}
use Rattle.iloc_spec_grammar.proofs.PartTexts.{join_one}
use Rattle.iloc_word_list.specs.EqualityLaws.{word_exact}
use Rattle.iloc_word_list.proofs.value.Value.eq_str.Goals as goal

pub returns-in-len1 : goal.returns-in-len1
returns-in-len1 c = let e = c.as_str.ensures.value ∙ c.subtag-item.is
    ∙ join_one c.as_subtags_slice.result.now c.subtag-item.result c.in-len1.len_at_least c.in-len1.len_below
    ∙ ap join c.as_subtags_slice.ensures.subtags in (
      λ h. sym e ∙ (word_exact _ _).0 (sym c.eq.ensures ∙ h),
      λ h. c.eq.ensures ∙ (word_exact _ _).1 (e ∙ h),
    )
