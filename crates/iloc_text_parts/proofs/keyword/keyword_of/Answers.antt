use Rattle.std.proofs.Common.{ap, drop, sym, ◌∙◌}
use Rattle.std.specs.Option.{option_copied}
use Rattle.iloc_text_parts.specs.Cuts.{after_key}
use Rattle.iloc_text_parts.specs.Tails.{tail_pieces}
use Rattle.iloc_text_parts.proofs.KeywordLemmas.{absent_is, some_word, value_is}
use Rattle.iloc_text_parts.proofs.keyword.keyword_of.Goals as goal

pub returns-in_err-later : goal.returns-in_err-later
returns-in_err-later c = λ M w e.
    let k = some_word _ c.args.key.now _ (sym c.in-Ok.ensures) in
    let us = tail_pieces c.find_unicode.result.now in
    let same = c.as_bytes.ensures.value ∙ c.as_str.ensures.value in
    ap option_copied c.from_residual.ensures
    ∙ absent_is M w c.args.key.now c.in-Ok.key k c.args.extensions.now us e c.find_unicode.ensures.rest
    (ap (λ x. after_key x us) (sym same) ∙ c.in_err-later.ensures)

pub returns : goal.returns
returns c = λ M w e.
    let k = some_word _ c.args.key.now _ (sym c.in-Ok.ensures) in
    let us = tail_pieces c.find_unicode.result.now in
    let same = c.as_bytes.ensures.value ∙ c.as_str.ensures.value in
    let found = c.in_ok-later.ensures in
    value_is M w c.args.key.now c.in-Ok.key k c.args.extensions.now us e c.find_unicode.ensures.rest
    (tail_pieces c.in_ok-later.later.now) (ap (λ x. after_key x us) (sym same) ∙ found.1)
    c.without_hyphen.result.now (c.without_hyphen.ensures ∙ ap (drop 1) c.take_longer.ensures.front)
