-- Two vectors are the same at their first lanes exactly if no lane there differs.
use Rattle.std.proofs.Common.{◌≡◌, ℕ, zero, suc, ◌+◌, ◌-◌, ◌*◌, ◌%◌, ◌^◌, ◌<◌, ◌≤◌, Bool, true, false, IsTrue, not, cond, [], ◌∷◌, length, take, map, bit_and, ◌↔◌, w8, refl, sym, ap, ◌∙◌, arith, eqb}
use Rattle.std.specs.Prelude.{nat_eq}
use Rattle.std.proofs.lemmas.Bool.Decides.{nat_tests}
use Rattle.std.proofs.lemmas.Nat.{and_mask, mod-mul-add, one_shl, pow_pos}
use Rattle.std.proofs.Math.Nat.{pow-suc}
use Rattle.std.proofs.lemmas.Simd.{tops_compared, mask_l-mod, length-zip2}
use lib.Lanes.{zip2, mask_l, top}
use mir.Val.{bits, hbits}
use Rattle.iloc_spec_grammar.specs.Syntax.{Text}

abbrev differ : ℕ → ℕ → Bool
differ a b = not (eqb a b)

-- a number of one bit more
pub low_bit : (c m p : ℕ) → c < 2 → 0 < p → (c + 2 * m) % (p * 2) ≡ c + 2 * (m % p)
low_bit c m p few some = grind (arith, mod-mul-add)

pub bit : (b : Bool) → cond b 1 0 < 2
bit true = omega arith
bit false = omega arith

cut : (b : Bool) (m n : ℕ) → (cond b 1 0 + 2 * m) % 2 ^ suc n ≡ cond b 1 0 + 2 * (m % 2 ^ n)
cut b m n = grind (arith, pow-suc, low_bit, bit, pow_pos)

none_is : (b : Bool) (k : ℕ) → cond b 1 0 + 2 * k ≡ 0 → (b ≡ false) × (k ≡ 0)
none_is b k h = grind arith

same_byte : (a b : ℕ) → differ a b ≡ false → a ≡ b
same_byte a b e = grind (arith, nat_tests)

no_difference : (a b : ℕ) → a ≡ b → differ a b ≡ false
no_difference a b e = grind (arith, nat_tests)

same_lanes : (v w : Text) (n : ℕ) → length v ≡ length w → n ≤ length v →
    (mask_l (zip2 differ v w) % 2 ^ n ≡ 0) ↔ (take n v ≡ take n w)
same_lanes v w zero long few = (λ _. refl, λ _. omega arith)
same_lanes [] w (suc n) long few = absurd (omega arith)
same_lanes (a ∷ v) [] (suc n) long few = absurd (omega arith)
same_lanes (a ∷ v) (b ∷ w) (suc n) long few =
    grind (arith, none_is, cut, same_byte, no_difference, same_lanes v w n)

is_none : (m : ℕ) → IsTrue (nat_eq m 0) ↔ (m ≡ 0)
is_none m = grind arith

-- by the bits that mark the lanes that differ
pub same_first : (v w : Text) (n : ℕ) → length v ≡ 16 → length w ≡ 16 → n ≤ 16
    → IsTrue (nat_eq
    (bit_and
    (mask_l (map (top (hbits w8)) (zip2 (λ a b. cond (differ a b) (2 ^ bits w8 - 1) 0) v w)) % 2 ^ 64)
    (1 * 2 ^ n % 2 ^ 64 - 1)) 0)
    ↔ (take n v ≡ take n w)
same_first v w n long wide few =
    let ms = zip2 differ v w in
    let short : length ms ≤ 64 = omega (arith, length-zip2 differ v w (long ∙ sym wide)) in
    let marks : mask_l (map (top (hbits w8)) (zip2 (λ a b. cond (differ a b) (2 ^ bits w8 - 1) 0) v w))
    % 2 ^ 64
    ≡ mask_l ms =
    ap (λ l. mask_l l % 2 ^ 64) (tops_compared w8 differ v w) ∙ mask_l-mod ms 64 short in
    let ones : 1 * 2 ^ n % 2 ^ 64 - 1 ≡ 2 ^ n - 1 = ap (λ k. k - 1) (one_shl n 64 (omega arith)) in
    grind (arith, bit_and, and_mask, same_lanes, is_none)
