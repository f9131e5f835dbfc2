use Rattle.std.proofs.Common.{◌∙◌, ap}
use Rattle.iloc_spec_grammar.specs.Syntax.{join}
use Rattle.iloc_spec_grammar.proofs.PartTexts.{join_one}
use Rattle.iloc_word_list.proofs.printing.ValueWriteable.writeable_borrow.Goals as goal

pub returns-in-len1-clause-text : goal.returns-in-len1-clause-text
returns-in-len1-clause-text c =
    c.as_str.ensures.value ∙ c.subtag-item.is
    ∙ join_one c.as_subtags_slice.result.now c.subtag-item.result c.in-len1.len_at_least c.in-len1.len_below
    ∙ ap join c.as_subtags_slice.ensures.subtags
