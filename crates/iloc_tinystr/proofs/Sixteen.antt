-- Sixteen bytes at once: the bytes of two numbers, and a bit for each byte that passes a test.
use Rattle.std.proofs.Common.{◌≡◌, ℕ, zero, suc, ◌+◌, ◌-◌, ◌*◌, ◌/◌, ◌%◌, ◌^◌, ◌<◌, ◌≤◌, Bool, true, false, ◌&&◌, cond, eqb, List, [], ◌∷◌, ◌++◌, length, map, replicate, Fits, w8, refl, sym, ap, ◌∙◌, arith, pow-suc}
use Rattle.std.proofs.lemmas.Bool.{agree_below, agree_below_at}
use Rattle.std.proofs.lemmas.List.{length-map}
use Rattle.std.proofs.lemmas.Nat.{one_shl, pow_pos}
use Rattle.std.proofs.lemmas.Simd.{zip2_of_maps, splat_is_map, map-map, mask_l-mod}
use Rattle.std.specs.List.{list_all}
use lib.Lanes.{zip2, mask_l, top, Each1}
use Rattle.iloc_tinystr.specs.Number.{bytes, IsPacked}
use Rattle.iloc_tinystr.proofs.Packed.{below, word-lt}

-- ---- the bytes of two numbers

abbrev more : ℕ → ℕ → ℕ
more zero m = m
more (suc n) m = suc (more n m)

abbrev scaled : ℕ → ℕ → ℕ
scaled zero y = y
scaled (suc n) y = 256 * scaled n y

bytes_pair : (n m x y : ℕ) → x < 256 ^ n → bytes (more n m) (x + scaled n y) ≡ bytes n x ++ bytes m y
unfolding bytes
bytes_pair zero m x y l = grind arith
bytes_pair (suc n) m x y l = grind (arith, pow-suc, bytes_pair n m (x / 256) y)

pub bytes_of_pair : (x y : ℕ) → x < 2 ^ 64 → bytes 16 (x + 2 ^ 64 * (y + 0)) ≡ bytes 8 x ++ bytes 8 y
bytes_of_pair x y l =
    let same : x + 2 ^ 64 * (y + 0) ≡ x + scaled 8 y = omega arith in
    ap (bytes 16) same ∙ bytes_pair 8 8 x y (omega arith)

-- ---- lanes

-- an operation with one byte in all lanes, on a vector that was computed lane by lane from v
pub then_splat : (h : ℕ → ℕ → ℕ) (f : ℕ → ℕ) (v : List ℕ) (n y : ℕ) {z : List ℕ} → length v ≡ n →
    z ≡ map f v → zip2 h z (replicate n y) ≡ map (λ b. h (f b) y) v
then_splat h f v n y long e = zip2_of_maps h f (λ _. y) v e (splat_is_map v n y long)

-- the same with the byte on the left
pub splat_then : (h : ℕ → ℕ → ℕ) (f : ℕ → ℕ) (v : List ℕ) (n y : ℕ) {z : List ℕ} → length v ≡ n →
    z ≡ map f v → zip2 h (replicate n y) z ≡ map (λ b. h y (f b)) v
splat_then h f v n y long e = zip2_of_maps h (λ _. y) f v (splat_is_map v n y long) e

-- two tests that agree on the 256 bytes
pub same_map : (q r : ℕ → Bool) (v : List ℕ) → Each1 (Fits w8) v → agree_below q r 256 ≡ true →
    map q v ≡ map r v
same_map q r [] fits e = refl
same_map q r (b ∷ v) fits e = λ j. agree_below_at q r 256 b e (fits.0).fits j ∷ same_map q r v fits.1 e j

-- a mask of lanes that were computed from v tells the test exactly
pub mask_is : (f : ℕ → ℕ) (p : ℕ → Bool) (v z : List ℕ) → (length v ≡ 16) × Each1 (Fits w8) v → z ≡ map f v
    → agree_below (λ b. top 7 (f b)) p 256 ≡ true → mask_l (map (top 7) z) % 2 ^ 64 ≡ mask_l (map p v)
mask_is f p v z fits e all =
    let few : length (map p v) ≤ 64 = omega (arith, length-map v p, fits.0) in
    ap (λ l. mask_l (map (top 7) l) % 2 ^ 64) e
    ∙ ap (λ l. mask_l l % 2 ^ 64) (map-map (top 7) f v ∙ same_map (λ b. top 7 (f b)) p v fits.1 all)
    ∙ mask_l-mod (map p v) 64 few

-- ---- whether all pass

-- what follows the bytes of a number is zeros, and marks nothing
marked_first : (p : ℕ → Bool) → p 0 ≡ false → (n m x : ℕ) → n ≤ m → x < 256 ^ n →
    mask_l (map p (bytes m x)) ≡ mask_l (map p (bytes n x))
unfolding bytes
marked_first p none zero zero x le lt = refl
marked_first p none zero (suc m) x le lt = grind (arith, marked_first p none zero m (x / 256))
marked_first p none (suc n) zero x le lt = absurd (omega arith)
marked_first p none (suc n) (suc m) x le lt = grind (arith, pow-suc, marked_first p none n m (x / 256))

marked_step : (t all : Bool) (a b : ℕ) → eqb a b ≡ all → eqb (cond t 1 0 + 2 * a) (1 + 2 * b) ≡ (t && all)
marked_step t all a b h = grind arith

all_of : (p : ℕ → Bool) (n x : ℕ) → eqb (mask_l (map p (bytes n x))) (2 ^ n - 1) ≡ list_all p (bytes n x)
unfolding bytes
all_of p zero x = refl
all_of p (suc n) x = grind (arith, pow-suc, pow_pos, marked_step, all_of p n (x / 256))

-- a bit is set for each byte of a piece exactly if all pass
pub all_marked : (p : ℕ → Bool) → p 0 ≡ false → (n x : ℕ) → IsPacked n x →
    eqb (mask_l (map p (bytes 8 x ++ bytes 8 0))) (1 * 2 ^ n % 2 ^ 64 - 1) ≡ list_all p (bytes n x)
all_marked p none n x h =
    let alone : x + 2 ^ 64 * (0 + 0) ≡ x = omega arith in
    let pair : bytes 8 x ++ bytes 8 0 ≡ bytes 16 x =
    sym (bytes_of_pair x 0 (word-lt n x h)) ∙ ap (bytes 16) alone in
    let first : mask_l (map p (bytes 8 x ++ bytes 8 0)) ≡ mask_l (map p (bytes n x)) =
    ap (λ v. mask_l (map p v)) pair ∙ marked_first p none n 16 x (omega (arith, h.few)) (below n x h) in
    (λ i. eqb (first i) (one_shl n 64 (omega (arith, h.few)) i - 1)) ∙ all_of p n x
