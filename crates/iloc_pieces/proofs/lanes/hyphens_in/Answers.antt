use Rattle.std.proofs.Common.{◌==◌, refl}
use Rattle.std.proofs.lemmas.Simd.{zip2_splat}
use Rattle.iloc_pieces.proofs.LaneLemmas.{marks_only}
use Rattle.iloc_pieces.proofs.lanes.hyphens_in.Goals as goal

pub returns : goal.returns
returns c = marks_only _ (λ b. b == 45) c.args.v _ c.fits-v (zip2_splat _ c.args.v 16 45 c.fits-v.0) refl
