use Rattle.std.proofs.Common.{◌∙◌, ap}
use Rattle.iloc_spec_grammar.specs.Syntax.{join}
use Rattle.iloc_spec_grammar.proofs.PartTexts.{join_one}
use Rattle.iloc_word_list.proofs.traits.WordSetWriteable.writeable_borrow.Goals as goal

pub returns-in-len1-clause-text : goal.returns-in-len1-clause-text
returns-in-len1-clause-text g c =
    c.as_str.ensures.value ∙ c.word-item.is
    ∙ join_one c.as_slice.result.now c.word-item.result c.in-len1.len_at_least c.in-len1.len_below
    ∙ ap join c.as_slice.ensures.value
