use Rattle.iloc_tinystr.specs.Number.{bytes}
use Rattle.iloc_tinystr.proofs.Sixteen.{bytes_of_pair}
use Rattle.iloc_tinystr.proofs.lanes.bytes_of.Goals as goal

pub returns : goal.returns
unfolding bytes
returns c = bytes_of_pair c.args.low c.args.high c.ranges.low.fits
