use Rattle.std.proofs.Common.{ap, ◌∙◌, Err}
use Rattle.std.proofs.lemmas.Result.{err_from_is_err_and}
use Rattle.iloc_subtags.specs.Left.{left}
use Rattle.iloc_langid.proofs.BlockLemmas.{value_refused}
use Rattle.iloc_langid.proofs.small_locale.read_keyword.Goals as goal

pub returns-in_err-value : goal.returns-in_err-value
returns-in_err-value c =
    let refused = err_from_is_err_and c.from_residual.result c.from_residual.ensures.1 in
    refused.1 ∙ ap Err refused.2
    ∙ value_refused (left c.args.iter.now) (left c.take_word.new.iter) c.in-Some.key c.in-Some.ensures.word
    c.in-Some.ensures.rest c.in_err-value.field-0.0 c.in_err-value.ensures
