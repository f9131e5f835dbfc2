use Rattle.std.proofs.Common.{ℕ, cond, refl}
use Rattle.std.specs.Char.{is_ascii_alphabetic}
use Rattle.std.proofs.lemmas.Simd.{zip2_splat}
use lib.Dec.{leb}
use Rattle.iloc_pieces.specs.Run.{fails}
use Rattle.iloc_tinystr.proofs.Sixteen.{then_splat, splat_then, mask_is}
use Rattle.iloc_pieces.proofs.run.no_letters_in.Goals as goal

-- the mask of a comparison
abbrev at_most : ℕ → ℕ → ℕ
at_most a b = cond (leb a b) 255 0

pub returns : goal.returns
returns c =
    let v = c.args.v in
    let long = c.fits-v.0 in
    mask_is _ (fails is_ascii_alphabetic) v _ c.fits-v
    (splat_then at_most _ v 16 26 long (then_splat _ _ v 16 97 long (zip2_splat _ v 16 32 long))) refl
