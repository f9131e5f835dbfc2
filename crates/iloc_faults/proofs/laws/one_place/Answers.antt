use Rattle.iloc_faults.proofs.OnePlace.{one_place}
use Rattle.iloc_faults.proofs.laws.one_place.Goals as goal

pub returns : goal.returns
returns c = one_place
