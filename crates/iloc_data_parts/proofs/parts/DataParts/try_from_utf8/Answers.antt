use Rattle.std.proofs.Common.{◌∙◌}
use Rattle.std.proofs.lemmas.Result.{err_from_is_err_and}
use Rattle.iloc_data_parts.proofs.ReadLemmas.{accepted, not_read, no_part}
use Rattle.iloc_data_parts.proofs.parts.DataParts.try_from_utf8.Goals as goal

pub returns-in_err-language : goal.returns-in_err-language
returns-in_err-language c =
    let p = err_from_is_err_and c.from_residual.result c.from_residual.ensures.1 in
    rw (p.1, p.2) (not_read c.args.code_units.now c.in_err-language.field-0.0 c.in_err-language.ensures)

pub returns-in_err-part : goal.returns-in_err-part
returns-in_err-part c =
    let p = err_from_is_err_and c.from_residual-in_err-part.result c.from_residual-in_err-part.ensures.1 in
    rw (p.1, p.2 ∙ c.in_err-part.ensures.0)
    (no_part c.args.code_units.now _ c.in_ok-language.ensures c.in_err-part.ensures.1)

pub returns : goal.returns
returns c = accepted c.args.code_units.now _ _ c.in_ok-language.ensures c.in_ok-part.ensures
