use Rattle.iloc_program.proofs.OneListing.{plain_listing}
use Rattle.iloc_program.proofs.laws.plain_listing.Goals as goal

pub returns : goal.returns
returns c = plain_listing
