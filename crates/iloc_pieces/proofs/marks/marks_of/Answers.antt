use Rattle.std.proofs.Common.{ℕ, cond, refl, bit_and}
use Rattle.std.specs.Int.Bits.{bit_xor}
use Rattle.std.proofs.lemmas.Simd.{zip2_splat, zip2_of_maps}
use lib.Dec.{leb, eqb}
use Rattle.iloc_pieces.specs.Marks.{no_letter, is_odd}
use Rattle.iloc_pieces.specs.Run.{is_hyphen}
use Rattle.iloc_tinystr.proofs.Sixteen.{mask_is, then_splat, splat_then}
use Rattle.iloc_pieces.proofs.marks.marks_of.Goals as goal

-- the masks of comparisons
abbrev at_most : ℕ → ℕ → ℕ
at_most a b = cond (leb a b) 255 0

abbrev same : ℕ → ℕ → ℕ
same a b = cond (eqb a b) 255 0

pub returns : goal.returns
returns c =
    let v = c.args.v in
    let long = c.fits-v.0 in
    let low = zip2_splat {Y = ℕ} _ v 16 32 long in
    let letters = splat_then at_most _ v 16 26 long (then_splat _ _ v 16 97 long low) in
    let digits = splat_then at_most _ v 16 10 long (zip2_splat {Y = ℕ} _ v 16 48 long) in
    let hyphens = zip2_splat {Y = ℕ} same v 16 45 long in
    record {
      ends = mask_is _ is_hyphen v _ c.fits-v hyphens refl;
      others = mask_is _ no_letter v _ c.fits-v letters refl;
      odd = mask_is _ is_odd v _ c.fits-v
          (zip2_of_maps bit_xor _ _ v (zip2_of_maps bit_and _ _ v letters digits) hyphens) refl;
    }
