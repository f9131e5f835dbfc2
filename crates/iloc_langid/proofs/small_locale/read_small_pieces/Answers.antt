use Rattle.std.proofs.Common.{sym, ◌∙◌}
use Rattle.std.proofs.lemmas.Result.{err_from_is_err_and}
use Rattle.iloc_subtags.specs.Left.{left}
use Rattle.iloc_subtags.proofs.ByteLemmas.{byte_first, no_byte}
use Rattle.iloc_langid.proofs.HeadLemmas.{front_refused, nothing_more, more_pieces, keyword_read, block_refused}
use Rattle.iloc_langid.proofs.small_locale.read_small_pieces.Goals as goal

pub returns-in_err-language : goal.returns-in_err-language
returns-in_err-language c =
    let refused = err_from_is_err_and c.from_residual.result c.from_residual.ensures.1 in
    rw (refused.1, refused.2)
    (front_refused c.args.code_units.now (left c.new-iter.result) (left c.read_small_front.new.iter)
    c.in_err-language.field-0.0 c.new-iter.ensures c.in_err-language.ensures)

pub returns-then-not-is_at_block : goal.returns-then-not-is_at_block
returns-then-not-is_at_block c =
    more_pieces c.args.code_units.now (left c.new-iter.result) (left c.read_small_front.new.iter)
    (c.in_ok-language.language, c.in_ok-language.script, c.in_ok-language.region, c.in_ok-language.variant)
    c.new-iter.ensures c.in_ok-language.ensures
    (sym c.is_at_block.ensures ∙ c.if-not-is_at_block.true)

pub returns-in_default : goal.returns-in_default
returns-in_default c =
    nothing_more c.args.code_units.now (left c.new-iter.result) (left c.read_small_front.new.iter)
    (c.in_ok-language.language, c.in_ok-language.script, c.in_ok-language.region, c.in_ok-language.variant)
    c.new-iter.ensures c.in_ok-language.ensures
    (no_byte _ (sym c.is_at_block.ensures ∙ c.if-not-is_at_block.false) c.in_default.ensures.byte)

pub returns-in_err-keyword : goal.returns-in_err-keyword
returns-in_err-keyword c =
    let refused =
    err_from_is_err_and c.from_residual-in_err-keyword.result c.from_residual-in_err-keyword.ensures.1 in
    rw (refused.1, refused.2)
    (block_refused c.args.code_units.now (left c.new-iter.result) (left c.read_small_front.new.iter)
    (c.in_ok-language.language, c.in_ok-language.script, c.in_ok-language.region, c.in_ok-language.variant)
    c.new-iter.ensures c.in_ok-language.ensures
    c.in-Some.singleton (left c.take_byte.new.iter)
    (byte_first _ _ _ c.in-Some.ensures.byte c.in-Some.ensures.rest) c.in_err-keyword.field-0.0
    c.in_err-keyword.ensures)

pub returns : goal.returns
returns c =
    keyword_read c.args.code_units.now (left c.new-iter.result) (left c.read_small_front.new.iter)
    (c.in_ok-language.language, c.in_ok-language.script, c.in_ok-language.region, c.in_ok-language.variant)
    c.new-iter.ensures c.in_ok-language.ensures
    c.in-Some.singleton (left c.take_byte.new.iter)
    (byte_first _ _ _ c.in-Some.ensures.byte c.in-Some.ensures.rest) c.in_ok-keyword.keyword
    c.in_ok-keyword.ensures
