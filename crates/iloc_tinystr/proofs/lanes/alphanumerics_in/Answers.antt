use Rattle.std.proofs.Common.{ℕ, cond, refl, bit_or}
use Rattle.std.specs.Char.{is_ascii_alphanumeric}
use Rattle.std.proofs.lemmas.Simd.{zip2_splat, zip2_of_maps}
use lib.Dec.{ltb}
use Rattle.iloc_tinystr.proofs.Sixteen.{mask_is, then_splat}
use Rattle.iloc_tinystr.proofs.lanes.alphanumerics_in.Goals as goal

-- the mask of a comparison
abbrev less : ℕ → ℕ → ℕ
less a b = cond (ltb a b) 255 0

pub returns : goal.returns
returns c =
    let v = c.args.v in
    let long = c.fits-v.0 in
    mask_is _ is_ascii_alphanumeric v _ c.fits-v
    (zip2_of_maps bit_or _ _ v
    (then_splat less _ v 16 26 long (then_splat _ _ v 16 97 long (zip2_splat {Y = ℕ} _ v 16 32 long)))
    (then_splat less _ v 16 10 long (zip2_splat {Y = ℕ} _ v 16 48 long))) refl
