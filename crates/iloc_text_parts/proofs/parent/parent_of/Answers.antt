use Rattle.std.proofs.Common.{sym, ◌∙◌}
use Rattle.iloc_text_parts.proofs.ParentLemmas.{is_nothing, is_something, no_dashes, without_is}
use Rattle.iloc_text_parts.proofs.parent.parent_of.Goals as goal

pub returns-then-is_empty : goal.returns-then-is_empty
returns-then-is_empty c = λ M w e.
    let cut = c.cut_apart-parts.ensures.parts M w e in
    let nothing = is_nothing c.is_empty.result _ c.is_empty.ensures c.if-is_empty.true in
    c.shorter.ensures M w e (no_dashes _ (sym cut.extensions ∙ nothing))

pub returns : goal.returns
returns c = λ M w e.
    let cut = c.cut_apart-parts.ensures.parts M w e in
    without_is M w c.args.normal.now e _ c.cut_apart-parts.result.base_name.now cut.extensions
    (is_something c.is_empty.result _ c.is_empty.ensures c.if-is_empty.false) cut.base_name
