use Rattle.iloc_pieces.proofs.SameLemmas.{same_first}
use Rattle.iloc_pieces.proofs.normal.are_same.Goals as goal

pub returns : goal.returns
returns c = same_first c.args.v c.args.w c.args.len c.fits-v.0 c.fits-w.0 c.requires
