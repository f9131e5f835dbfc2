use Rattle.std.proofs.Common.{length, arith}
use Rattle.std.proofs.lemmas.Result.{err_from_is_err_and}
use Rattle.iloc_locale.specs.declared.locale.Locale.{Locale}
use Rattle.iloc_locale.proofs.ReadLemmas.{none_after_unknown}
use Rattle.iloc_transform.proofs.RoomLemmas.{passed_on}
use Rattle.iloc_locale.proofs.locale.Locale.filled.Goals as goal

pub fill-requires : goal.fill-requires
fill-requires g c = none_after_unknown c.unknown_in-locale.result c.unknown_in-locale.ensures

pub returns-in_err-fill-clause-reads : goal.returns-in_err-fill-clause-reads
returns-in_err-fill-clause-reads g c =
    let p = err_from_is_err_and c.from_residual.result c.from_residual.ensures.1 in
    rw (p.1, p.2) c.in_err-fill.ensures.reads

pub returns-in_err-fill-clause-out_of_memory : goal.returns-in_err-fill-clause-out_of_memory
returns-in_err-fill-clause-out_of_memory g c =
    let p = err_from_is_err_and c.from_residual.result c.from_residual.ensures.1 in
    let room = length c.args.code_units.now in
    rw (p.1, p.2) (passed_on (Unit {0}) Locale g.M.Memory.refused room room (omega arith)
    c.in_err-fill.field-0.0 c.in_err-fill.ensures.out_of_memory)
