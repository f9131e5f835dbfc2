use Rattle.std.proofs.Common.{refl}
use Rattle.std.proofs.lemmas.Simd.{zip2_splat}
use Rattle.iloc_pieces.specs.Run.{is_hyphen}
use Rattle.iloc_pieces.proofs.run.hyphens_of.Goals as goal
use Rattle.iloc_tinystr.proofs.Sixteen.{mask_is}

pub returns : goal.returns
returns c =
    let v = c.args.v in
    let long = c.fits-v.0 in
    mask_is _ is_hyphen v _ c.fits-v (zip2_splat _ v 16 45 long) refl
