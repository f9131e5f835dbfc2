use Rattle.iloc_program.proofs.OneListing.{one_listing}
use Rattle.iloc_program.proofs.laws.one_listing.Goals as goal

pub returns : goal.returns
returns c = one_listing
