use Rattle.std.proofs.Common.{refl}
use Rattle.std.proofs.lemmas.Simd.{zip2_splat}
use Rattle.iloc_pieces.proofs.LaneLemmas.{lower_lanes}
use Rattle.iloc_tinystr.proofs.Sixteen.{then_splat}
use Rattle.iloc_pieces.proofs.lanes.all_in_lower_case.Goals as goal

pub returns : goal.returns
returns c =
    let long = c.fits-v.0 in
    lower_lanes _ _ c.args.v _ _ c.fits-v.1
    (then_splat _ _ c.args.v 16 26 long (zip2_splat _ c.args.v 16 65 long)) (zip2_splat _ c.args.v 16 32 long)
    refl
