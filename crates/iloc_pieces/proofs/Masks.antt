-- Bytes as bits: of lanes, of the first and the later ones, and of one that is added.
use Rattle.std.proofs.Common.{◌≡◌, ℕ, zero, suc, ◌+◌, ◌-◌, ◌*◌, ◌/◌, ◌%◌, ◌^◌, ◌<◌, ◌≤◌, Bool, true, false, cond, [], ◌∷◌, ◌++◌, length, map, take, drop, bit_and, bit_or, ◌∙◌, arith, pow-suc}
use Rattle.std.specs.Int.Bits.{or_zero_l, or_zero_r}
use Rattle.std.proofs.Math.Nat.{mod-one, zero-mod, div-one, zero-div, div-div-eq-div-mul}
use Rattle.std.proofs.lemmas.List.{length-map, length-take-le}
use Rattle.std.proofs.lemmas.Nat.{and_mask, or_block, pow_pos}
use Rattle.std.proofs.lemmas.Simd.{mask_l-lt}
use lib.Lanes.{mask_l}
use Rattle.iloc_spec_grammar.specs.Syntax.{Text}
use Rattle.iloc_pieces.specs.Marks.{AreMarks, closed}
use Rattle.iloc_pieces.specs.declared.marks.Marks.{Marks}
use Rattle.iloc_pieces.proofs.SameLemmas.{low_bit, bit as bit_lt}

-- ---- the first bits

-- they mark the first bytes
pub low : (q : ℕ → Bool) (n : ℕ) (v : Text) → mask_l (map q v) % 2 ^ n ≡ mask_l (map q (take n v))
low q zero v = mod-one (mask_l (map q v))
low q (suc n) [] = zero-mod (2 ^ suc n)
low q (suc n) (b ∷ v) = grind (arith, pow-suc, low_bit, bit_lt, pow_pos, low q n v)

pub masked : (q : ℕ → Bool) (n x e : ℕ) (v : Text) → e ≡ 2 ^ n → x ≡ mask_l (map q v)
    → bit_and x (e - 1) ≡ mask_l (map q (take n v))
masked q n x e v h marks = grind (arith, and_mask, low)

-- ---- the later bits

one_less : (a m k : ℕ) → a < 2 → (a + 2 * m) / (2 * k) ≡ m / k
one_less a m k small = grind (arith, div-div-eq-div-mul)

-- they mark what follows
high : (q : ℕ → Bool) (n : ℕ) (v : Text) → mask_l (map q v) / 2 ^ n ≡ mask_l (map q (drop n v))
high q zero v = div-one (mask_l (map q v))
high q (suc n) [] = zero-div (2 ^ suc n)
high q (suc n) (b ∷ v) = grind (arith, pow-suc, one_less, bit_lt, high q n v)

-- so do the masks of the three tests
pub later_marks : (v : Text) (n : ℕ) (m r : Marks) → AreMarks v m → r.ends ≡ m.ends / 2 ^ n
    → r.others ≡ m.others / 2 ^ n → r.odd ≡ m.odd / 2 ^ n → AreMarks (drop n v) r
later_marks v n m r are h o d = grind (arith, high)

-- ---- a hyphen behind the first bytes

-- the bit of a byte that is added
added : (q : ℕ → Bool) (p : Text) (b : ℕ)
    → mask_l (map q (p ++ (b ∷ []))) ≡ mask_l (map q p) + cond (q b) (2 ^ length p) 0
added q [] b = grind arith
added q (c ∷ p) b = grind (arith, pow-suc, added q p b)

above : (n m : ℕ) → m < 2 ^ n → bit_or m (2 ^ n) ≡ m + 2 ^ n
above n m l =
    let low : m ≡ 0 * 2 ^ n + m = omega arith in
    let high : 2 ^ n ≡ 1 * 2 ^ n + 0 = omega arith in
    (λ j. bit_or (low j) (high j)) ∙ or_block n 0 1 m 0 l (pow_pos n)
    ∙ (λ j. or_zero_l 1 j * 2 ^ n + or_zero_r m j) ∙ omega arith

module _ (v : Text) (n e : ℕ) (inside : n ≤ length v) (end : e ≡ 2 ^ n) where
  -- the bit above the first n is set, and no other
  ended : (q : ℕ → Bool) → q 45 ≡ true → (x : ℕ) → x ≡ mask_l (map q v)
      → bit_or (bit_and x (e - 1)) e ≡ mask_l (map q (closed (take n v)))
  ended q is x marks = grind (arith, length-take-le, length-map, mask_l-lt, masked, above, added)

  -- no bit is set there
  not_ended : (q : ℕ → Bool) → q 45 ≡ false → (x : ℕ) → x ≡ mask_l (map q v)
      → bit_and x (e - 1) ≡ mask_l (map q (closed (take n v)))
  not_ended q clear x marks = grind (arith, masked, added)

  pub closed_marks : (m r : Marks) → AreMarks v m → r.ends ≡ bit_or (bit_and m.ends (e - 1)) e
      → r.others ≡ bit_or (bit_and m.others (e - 1)) e → r.odd ≡ bit_and m.odd (e - 1)
      → AreMarks (closed (take n v)) r
  closed_marks m r are h o d = grind (arith, ended, not_ended)
