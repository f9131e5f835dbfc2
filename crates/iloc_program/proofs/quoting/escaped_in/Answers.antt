use Rattle.std.proofs.Common.{ℕ, cond, refl, bit_or}
use Rattle.std.proofs.lemmas.Simd.{zip2_splat, zip2_of_maps}
use lib.Dec.{leb, eqb}
use Rattle.iloc_tinystr.proofs.Sixteen.{mask_is, splat_then}
use Rattle.iloc_program.specs.Listing.{is_escaped}
use Rattle.iloc_program.proofs.quoting.escaped_in.Goals as goal

-- the masks of comparisons
abbrev at_most : ℕ → ℕ → ℕ
at_most a b = cond (leb a b) 255 0

abbrev same : ℕ → ℕ → ℕ
same a b = cond (eqb a b) 255 0

pub returns : goal.returns
returns c =
    let v = c.args.lanes in
    let long = c.fits-lanes.0 in
    let unprinted = splat_then at_most _ v 16 95 long (zip2_splat {Y = ℕ} _ v 16 32 long) in
    let backslashes = zip2_splat {Y = ℕ} same v 16 92 long in
    mask_is _ is_escaped v _ c.fits-lanes (zip2_of_maps bit_or _ _ v unprinted backslashes) refl
