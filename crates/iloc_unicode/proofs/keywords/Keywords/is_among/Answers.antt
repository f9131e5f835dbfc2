use Rattle.std.proofs.Common.{◌∙◌, ◌++◌, ap, sym, arith}
use Rattle.iloc_spec_grammar.specs.Syntax.{Fields, word_cmp}
use Rattle.iloc_spec_grammar.specs.Meaning.{map_of}
use Rattle.iloc_unicode.proofs.KeywordLemmas.{over_nothing, over_one}
use Rattle.iloc_unicode.proofs.keywords.Keywords.is_among.Goals as goal

pub returns-in-empty : goal.returns-in-empty
returns-in-empty c h =
    ap (λ (es : Fields). map_of word_cmp (c.args.other.now ++ es)) (sym c.as_slice-2.ensures.pairs)
    ∙ over_nothing c.args.other.now c.as_slice-2.result.now c.as_slice.ensures.ascending c.in-empty.len_below

pub returns-in-len1 : goal.returns-in-len1
returns-in-len1 c h =
    ap (λ (es : Fields). map_of word_cmp (c.args.other.now ++ es)) (sym c.as_slice-2.ensures.pairs)
    ∙ over_one c.args.other.now c.as_slice-2.result.now c.index-only-0.result c.as_slice.ensures.ascending
    (omega arith) c.in-len1.len_below (sym c.contains_key.ensures ∙ h)
