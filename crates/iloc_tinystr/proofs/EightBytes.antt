-- Eight bytes below 128 that are computed lane by lane.
use Rattle.std.proofs.Common.{◌≡◌, ℕ, zero, suc, ◌+◌, ◌-◌, ◌*◌, ◌<◌, Bool, true, ◌==◌, ◌&&◌, cond, ◌||◌, List, [], ◌∷◌, ◌++◌, length, map, take, refl, sym, ap, ◌∙◌, arith, nat_lt, nat_eq}
use Rattle.std.proofs.lemmas.Bool.{agree_below, agree_below_at}
use Rattle.std.proofs.lemmas.Bool.Decides.{nat_tests}
use Rattle.std.proofs.lemmas.Simd.{zip2_of_maps, splat_is_map}
use Rattle.std.proofs.Math.ListN.{replicate}
use Rattle.std.proofs.Math.Seq.{take-append_seam}
use Rattle.std.specs.Char.{is_ascii_alphanumeric}
use Rattle.std.specs.Int.{w64, from_le_bytes}
use Rattle.std.specs.List.{list_all}
use Rattle.std.proofs.lemmas.List.{length-map, map-append}
use Rattle.iloc_tinystr.proofs.TinyTextLemmas.{bytes-tiny}
use Rattle.iloc_tinystr.proofs.RawForms.{from_eight}
use lib.Lanes.{zip2, top, Each1, sel_l}
use mir.Val.{SFits}
use mir.Syntax.{w8, bit_or, cast, mask, lt, signed, unsigned, wrap_add}
use borrow.Rule.Simd.Lanes.{act1, act2}
use borrow.Table.Row.{Sc, s_int}
use lib.IntN.{pos}
use Rattle.iloc_tinystr.specs.Number.{number}
use Rattle.iloc_tinystr.specs.TinyText.{is_text_byte, IsRaw, text_of}

abbrev pub byte : Sc
byte = s_int w8

abbrev pub Low : List ℕ → Type 0
Low v = list_all (λ b. nat_lt b 128) v ≡ true

first_low : (b : ℕ) (v : List ℕ) → Low (b ∷ v) → (b < 128) × Low v
first_low b v low = grind arith

-- such a byte is the same number with a sign
pub sign_free : (v : List ℕ) → Low v → Each1 (λ b. SFits w8 (pos b)) v
sign_free [] low = tt
sign_free (b ∷ v) low = let s = first_low b v low in (record { sfits = s.0 }, sign_free v s.1)

abbrev over : ℕ → ℕ → ℕ
over = act2 (mask (lt signed)) byte byte byte

abbrev plus : ℕ → ℕ → ℕ
plus = act2 wrap_add byte byte byte

abbrev or : ℕ → ℕ → ℕ
or = act2 bit_or byte byte byte

abbrev sign : ℕ → ℕ
sign = act1 (cast unsigned signed w8) byte byte

-- vectors of which each byte is computed from one of v
module _ (v : List ℕ) (long : length v ≡ 8) where
  -- whether what is computed is above m, once a is added
  compared : (f : ℕ → ℕ) (a m : ℕ) {z : List ℕ} → z ≡ map f v →
      zip2 over (replicate 8 m) (zip2 plus z (replicate 8 a)) ≡ map (λ b. over m (plus (f b) a)) v
  compared f a m e =
      zip2_of_maps over (λ _. m) _ v (splat_is_map v 8 m long)
      (zip2_of_maps plus f (λ _. a) v e (splat_is_map v 8 a long))

same_number : (x y : ℕ) → (x == y) ≡ true → x ≡ y
same_number x y h = grind (arith, nat_tests)

-- bytes of which those that pass are changed, as a table of 128 says
each_changed : (h : ℕ → ℕ → ℕ) (q : ℕ → ℕ) (y : ℕ) (p : ℕ → ℕ)
    → agree_below (λ b. h b (cond (top 7 (q b)) y 0) == p b) (λ _. true) 128 ≡ true → (v : List ℕ) → Low v →
    zip2 h v (sel_l (map (top 7) (map q v)) (replicate (length v) y) (replicate (length v) 0)) ≡ map p v
each_changed h q y p all [] low = refl
each_changed h q y p all (b ∷ v) low =
    let s = first_low b v low in
    let lane : h b (cond (top 7 (q b)) y 0) ≡ p b =
    same_number _ _ (agree_below_at (λ b. h b (cond (top 7 (q b)) y 0) == p b) (λ _. true) 128 b all s.0) in
    λ j. lane j ∷ each_changed h q y p all v s.1 j

-- so of those that are above m, once a is added
pub changed : (h : ℕ → ℕ → ℕ) (a m y : ℕ) (p : ℕ → ℕ) (v : List ℕ) → length v ≡ 8 → Low v
    → agree_below (λ b. h b (cond (top 7 (over m (plus (sign b) a))) y 0) == p b) (λ _. true) 128 ≡ true →
    zip2 h v (sel_l (map (top 7) (zip2 over (replicate 8 m) (zip2 plus (map sign v) (replicate 8 a))))
    (replicate 8 y) (replicate 8 0)) ≡ map p v
changed h a m y p v long low all =
    (λ j. zip2 h v (sel_l (map (top 7) (compared v long sign a m refl j)) (replicate (sym long j) y)
    (replicate (sym long j) 0))) ∙ each_changed h (λ b. over m (plus (sign b) a)) y p all v low

-- the number of bytes of which the first is x
zero_step : (x a : ℕ) → nat_eq (x + 256 * a) 0 ≡ ((x == 0) && nat_eq a 0)
zero_step x a = grind (arith, nat_tests)

-- whether all bytes are letters, digits or zeros
abbrev passes : ℕ → Bool
passes b = b == 0 || is_ascii_alphanumeric b

-- what is left of a byte once letters and digits are zeros
abbrev left : ℕ → ℕ
left b = cond (top 7 (or (over 101 (plus (or (sign b) 32) 5)) (over 117 (plus (sign b) 70)))) 0 b

none_left : (v : List ℕ) → Low v → nat_eq (number (map left v)) 0 ≡ list_all passes v
none_left [] low = refl
none_left (b ∷ v) low =
    let s = first_low b v low in
    let lane = agree_below_at (λ b. left b == 0) passes 128 b refl s.0 in
    zero_step (left b) (number (map left v)) ∙ (λ j. lane j && none_left v s.1 j)

lefts : (q : ℕ → ℕ) (v : List ℕ) →
    sel_l (map (top 7) (map q v)) (replicate (length v) 0) v ≡ map (λ b. cond (top 7 (q b)) 0 b) v
lefts q [] = refl
lefts q (b ∷ v) = grind (arith, lefts q v)

pub alphanumerics : (v : List ℕ) → length v ≡ 8 → Low v → (x : ℕ) → x ≡ from_le_bytes w64
    (sel_l (map (top 7) (zip2 or
    (zip2 over (replicate 8 101) (zip2 plus (zip2 or (map sign v) (replicate 8 32)) (replicate 8 5)))
    (zip2 over (replicate 8 117) (zip2 plus (map sign v) (replicate 8 70))))) (replicate 8 0) v)
    → nat_eq x 0 ≡ list_all passes v
alphanumerics v long low x e =
    let small = zip2_of_maps or sign (λ _. 32) v refl (splat_is_map v 8 32 long) in
    let both = zip2_of_maps or _ _ v (compared v long (λ b. or (sign b) 32) 5 101 small)
    (compared v long sign 70 117 refl) in
    let rest = (λ j. sel_l (map (top 7) (both j)) (replicate (sym long j) 0) v) ∙ lefts _ v in
    ap (λ n. nat_eq n 0) (e ∙ ap (from_le_bytes w64) rest ∙ from_eight _ (length-map v left ∙ long))
    ∙ none_left v low

-- ---- a raw form, followed by zeros up to eight bytes

low_zeros : (k : ℕ) → Low (replicate k 0)
low_zeros zero = refl
low_zeros (suc k) = low_zeros k

cons_low : (b : ℕ) (v : List ℕ) → b < 128 → Low v → Low (b ∷ v)
cons_low b v h low = grind (arith, nat_tests, h, low)

low_append : (v w : List ℕ) → Low v → Low w → Low (v ++ w)
low_append [] w low more = more
low_append (b ∷ v) w low more = let s = first_low b v low in cons_low b (v ++ w) s.0 (low_append v w s.1 more)

text_step : (b : ℕ) (rest : Bool) → (is_text_byte b && rest) ≡ true → (b < 128) × (rest ≡ true)
text_step b rest h = grind arith

low_text : (text : List ℕ) → list_all is_text_byte text ≡ true → Low text
low_text [] all = refl
low_text (b ∷ text) all = let s = text_step b _ all in cons_low b text s.0 (low_text text s.1)

pub low_widened : (n : ℕ) (raw all : List ℕ) → IsRaw n raw → all ≡ raw ++ replicate (8 - n) 0 → Low all
low_widened n raw all h e = grind (arith, low_append, replicate, low_text, bytes-tiny, low_zeros)

pub cut : (f : ℕ → ℕ) (n : ℕ) (raw all done new : List ℕ) → length raw ≡ n
    → all ≡ raw ++ replicate (8 - n) 0 → done ≡ map f all → new ≡ take n done → new ≡ map f raw
cut f n raw all done new long widened is taken =
    grind (arith, map-append, replicate, length-map, take-append_seam)

-- zeros after them change nothing
pass_zeros : (k : ℕ) → list_all passes (replicate k 0) ≡ true
pass_zeros zero = refl
pass_zeros (suc k) = pass_zeros k

with_zeros : (v : List ℕ) (k : ℕ) → list_all passes (v ++ replicate k 0) ≡ list_all passes v
with_zeros [] k = pass_zeros k
with_zeros (b ∷ v) k = grind (arith, with_zeros v k)

byte_passes : (b : ℕ) (rest : Bool) → (is_text_byte b && rest) ≡ true → passes b ≡ is_ascii_alphanumeric b
byte_passes b rest h = grind arith

text_passes : (text : List ℕ) → list_all is_text_byte text ≡ true →
    list_all passes text ≡ list_all is_ascii_alphanumeric text
text_passes [] all = refl
text_passes (b ∷ text) all =
    λ j. byte_passes b _ all j && text_passes text (text_step b _ all).1 j

pub widened_passes : (n : ℕ) (raw all text : List ℕ) → IsRaw n raw → text_of raw ≡ text
    → all ≡ raw ++ replicate (8 - n) 0 → list_all passes all ≡ list_all is_ascii_alphanumeric text
widened_passes n raw all text h is e = grind (arith, with_zeros, text_passes, bytes-tiny)
