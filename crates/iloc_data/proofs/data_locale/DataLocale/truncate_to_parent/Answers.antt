use Rattle.std.proofs.Common.{sym}
use Rattle.iloc_data.specs.DataValue.{value_of}
use Rattle.iloc_data.proofs.ParentLemmas.{one_fewer}
use Rattle.iloc_data.proofs.data_locale.DataLocale.truncate_to_parent.Goals as goal

pub returns-in-Some-clause-fewer : goal.returns-in-Some-clause-fewer
returns-in-Some-clause-fewer c h =
    one_fewer (value_of c.args.self.now) (value_of c.in-Some.parent) (sym c.in-Some.ensures)
