-- From the bits of a mask to the bytes of a vector.
use Rattle.std.proofs.Common.{◌≡◌, ℕ, zero, suc, ◌+◌, ◌-◌, ◌/◌, ◌%◌, ◌^◌, ◌<◌, ◌≤◌, Bool, true, false, not, ◌||◌, ◌==◌, cond, [], ◌∷◌, length, map, get_or, drop, Fits, w8, refl, sym, ap, ◌∙◌, arith, IsTrue, leb}
use Rattle.std.specs.Prelude.{nat_eq}
use mir.Val.{bits}
use Rattle.std.proofs.lemmas.Bool.{agree_below, agree_below_at, leb-true}
use Rattle.std.proofs.lemmas.Bool.Decides.{nat_tests}
use Rattle.std.proofs.lemmas.List.{length-map, get_or-take, get_or-drop}
use Rattle.std.proofs.lemmas.Nat.Bits.{bit_at_ones}
use Rattle.std.proofs.lemmas.Simd.{map-map, bit_mask_l, mask_l-mod, tops_compared, Each1-get_or, get_or-zip2, length-zip2}
use lib.Lanes.{zip2, mask_l, top, Each1, sel_l}
use Rattle.std.specs.Char.{to_ascii_lowercase}
use Rattle.iloc_spec_grammar.specs.Syntax.{Text, lower}
use Rattle.iloc_pieces.specs.Marked.{MarksOnly}
use Rattle.iloc_pieces.specs.PlainShape.{part}

-- what holds of each of the 256 bytes that pass a test
pub of_byte : (t q : ℕ → Bool) → agree_below (λ b. not (t b) || q b) (λ _. true) 256 ≡ true → (b : ℕ) →
    b < 256 → t b ≡ true → q b ≡ true
of_byte t q e b l h = rw h at (agree_below_at (λ b. not (t b) || q b) (λ _. true) 256 b e l)

marked_lane : (q : ℕ → Bool) (v : Text) (i : ℕ) → get_or (map q v) i false ≡ true →
    (q (get_or v i 0) ≡ true) × (i < length v)
marked_lane q [] i e = absurd (cc)
marked_lane q (b ∷ v) zero e = (e, omega arith)
marked_lane q (b ∷ v) (suc i) e = grind (arith, marked_lane q v i e)

is_set : (b : Bool) → ◌≡◌ {A = ℕ} (cond b 1 0) 1 → b ≡ true
is_set true e = refl
is_set false e = absurd (omega arith)

pub marks_only : (f : ℕ → ℕ) (p : ℕ → Bool) (v z : Text) → (length v ≡ 16) × Each1 (Fits w8) v → z ≡ map f v
    → agree_below (λ b. not (top 7 (f b)) || p b) (λ _. true) 256 ≡ true →
    MarksOnly p v (mask_l (map (top 7) z) % 2 ^ 64)
marks_only f p v z fits e all i m =
    let q = λ (b : ℕ). top 7 (f b) in
    let few : length (map q v) ≤ 64 = omega (arith, length-map v q, fits.0) in
    let mask : mask_l (map (top 7) z) % 2 ^ 64 ≡ mask_l (map q v) =
    ap (λ l. mask_l (map (top 7) l) % 2 ^ 64) e ∙ ap (λ l. mask_l l % 2 ^ 64) (map-map (top 7) f v)
    ∙ mask_l-mod (map q v) 64 few in
    let lane =
    marked_lane q v i (is_set _ (sym (bit_mask_l (map q v) i) ∙ ap (λ y. y / 2 ^ i % 2) (sym mask) ∙ m)) in
    of_byte q p all (get_or v i 0) (Each1-get_or (Fits w8) v i 0 lane.1 fits.1).fits lane.0

-- ---- letters in lower case

same_number : (x y : ℕ) → (x == y) ≡ true → x ≡ y
same_number x y h = grind (arith, nat_tests)

-- lanes of which those that pass are changed, by a table of 256
pub lower_lanes : (f g : ℕ → ℕ) (v z y : Text) → Each1 (Fits w8) v → z ≡ map f v → y ≡ map g v
    → agree_below (λ b. cond (top 7 (f b)) (g b) b == to_ascii_lowercase b) (λ _. true) 256 ≡ true →
    sel_l (map (top 7) z) y v ≡ lower v
unfolding lower
lower_lanes f g v z y fits e h all = (λ j. sel_l (map (top 7) (e j)) (h j) v) ∙ each v fits
  where
    each : (v : Text) → Each1 (Fits w8) v →
        sel_l (map (top 7) (map f v)) (map g v) v ≡ map to_ascii_lowercase v
    each [] fits = refl
    each (b ∷ v) fits =
        let lane : cond (top 7 (f b)) (g b) b ≡ to_ascii_lowercase b =
        same_number _ _ (agree_below_at (λ b. cond (top 7 (f b)) (g b) b == to_ascii_lowercase b) (λ _. true)
        256 b all fits.0.fits) in
        λ j. lane j ∷ each v fits.1 j

-- ---- lanes beside a part of a list

part_at : (a : ℕ) (r : Text) (i : ℕ) → i < 16 → get_or (part 16 a r) i 0 ≡ get_or r (a + i) 0
part_at a r i l = get_or-take 16 (drop a r) i 0 l ∙ get_or-drop a r i 0

module _ (v : Text) (long : length v ≡ 16) (a : ℕ) (r z : Text) (is : z ≡ part 16 a r)
    (wide : length z ≡ 16) where
  pub long_beside : (h : ℕ → ℕ → ℕ) → length (zip2 h v z) ≡ 16
  long_beside h = length-zip2 h v z (long ∙ sym wide) ∙ long

  pub beside : {X : Type 0} (h : ℕ → ℕ → X) (d : X) (i : ℕ) → i < 16 →
      get_or (zip2 h v z) i d ≡ h (get_or v i 0) (get_or r (a + i) 0)
  beside h d i l = grind (arith, get_or-zip2, part_at)

  -- if all lanes of a comparison are set, no lane is greater
  pub none_greater : IsTrue
      (nat_eq (mask_l (map (top 7) (zip2 (λ x y. cond (leb x y) (2 ^ bits w8 - 1) 0) v z)) % 2 ^ 64) 65535)
      → (i : ℕ) → i < 16 → get_or v i 0 ≤ get_or r (a + i) 0
  none_greater e i l =
      let tests = zip2 leb v z in
      let few : length tests ≤ 64 = omega (arith, length-zip2 leb v z (long ∙ sym wide), long) in
      let mask : mask_l tests ≡ 65535 =
      sym (mask_l-mod tests 64 few) ∙ ap (λ ms. mask_l ms % 2 ^ 64) (sym (tops_compared w8 leb v z))
      ∙ same_number _ 65535 e in
      let set : get_or tests i false ≡ true =
      is_set _ (sym (bit_mask_l tests i) ∙ ap (λ m. m / 2 ^ i % 2) mask ∙ bit_at_ones 16 i l) in
      leb-true _ _ (sym (beside leb false i l) ∙ set)
