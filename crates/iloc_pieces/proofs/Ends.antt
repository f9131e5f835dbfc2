-- From marks to the first piece: how long it is, and its shape by the lowest bit that is set.
use Rattle.std.proofs.Common.{◌≡◌, ℕ, zero, suc, ◌+◌, ◌-◌, ◌*◌, ◌^◌, ◌<◌, ◌≤◌, Bool, true, false, cond, not, ◌&&◌, [], ◌∷◌, length, map, take, bit_and, refl, sym, ap, ◌∙◌, arith, pow-suc, ◌↔◌}
use Rattle.std.specs.List.{prefix_len, slice_split}
use Rattle.std.specs.Int.Bits.{bit_xor, xor_self}
use Rattle.std.specs.Char.{is_ascii_alphabetic, is_ascii_alphanumeric}
use Rattle.std.proofs.lemmas.Bool.{false_from_ne_true}
use Rattle.std.proofs.lemmas.Bool.Decides.{nat_tests}
use Rattle.std.proofs.lemmas.List.Splits.{slice_split-cons_yes, slice_split-cons_no}
use Rattle.std.proofs.lemmas.Nat.{xor_block, and_mask, pow_pos}
use lib.Lanes.{mask_l}
use Rattle.iloc_spec_grammar.specs.Syntax.{Text, letters_or_digits, pieces, first_piece}
use Rattle.iloc_pieces.specs.Shape.{bits, shape_of}
use Rattle.iloc_pieces.specs.Marks.{closed, no_letter, is_odd}
use Rattle.iloc_pieces.specs.Run.{is_hyphen}
use Rattle.iloc_pieces.proofs.Masks.{low}

-- ---- the first piece of a text that is closed by a hyphen

-- how many bytes come before the first hyphen
abbrev pub before : Text → ℕ
before v = prefix_len (λ b. not (is_hyphen b)) v

-- where a hyphen is marked, the piece is what comes before the first one
first_by : (a : Bool) (c k : ℕ) (t : Text) → is_hyphen c ≡ a
    → 0 < cond a 1 0 + 2 * mask_l (map is_hyphen (take k (closed t)))
    → (0 < mask_l (map is_hyphen (take k (closed t)))
    → first_piece (slice_split is_hyphen t) ≡ take (before (take k (closed t))) (take k (closed t)))
    → first_piece (slice_split is_hyphen (c ∷ t))
    ≡ take (cond (not a) (1 + before (take k (closed t))) 0) (c ∷ take k (closed t))
first_by true c k t e some h = grind (arith, slice_split-cons_yes)
first_by false c k t e some h = grind (arith, slice_split-cons_no)

pub first_marked : (rest : Text) (k : ℕ) → 0 < mask_l (map is_hyphen (take k (closed rest)))
    → first_piece (pieces rest) ≡ take (before (take k (closed rest))) (take k (closed rest))
unfolding pieces
first_marked rest zero some = absurd (omega arith)
first_marked [] (suc k) some = refl
first_marked (c ∷ t) (suc k) some = grind (arith, first_by, first_marked t k)

-- where none is marked, it is longer
pub first_unmarked : (rest : Text) (k : ℕ) → mask_l (map is_hyphen (take k (closed rest))) ≡ 0
    → k ≤ length (first_piece (pieces rest))
unfolding pieces
first_unmarked rest zero none = omega arith
first_unmarked [] (suc k) none = absurd (omega arith)
first_unmarked (c ∷ t) (suc k) none = grind (arith, slice_split-cons_no, first_unmarked t k)

-- where one is marked, one stands among the bytes
some_by : (b : Bool) (m n k : ℕ) → 0 < cond b 1 0 + 2 * m → (0 < m → n < k) → cond (not b) (1 + n) 0 < suc k
some_by b m n k h e = grind arith

pub some_marked : (v : Text) → 0 < mask_l (map is_hyphen v) → before v < length v
some_marked [] l = absurd (omega arith)
some_marked (b ∷ v) l = grind (arith, some_by, some_marked v)

-- ---- the bits up to the lowest that is set

odd_number : (m x : ℕ) → x ≡ 1 + 2 * m → bit_xor x (x - 1) ≡ 1
odd_number m x e =
    let one : x ≡ m * 2 ^ 1 + 1 = omega arith in
    let less : x - 1 ≡ m * 2 ^ 1 + 0 = omega arith in
    (λ j. bit_xor (one j) (less j)) ∙ xor_block 1 m m 1 0 (omega arith) (omega arith)
    ∙ (λ j. xor_self m j * 2 + 1)

even_number : (m k x : ℕ) → x ≡ 2 * m → 0 < m → bit_xor m (m - 1) ≡ k - 1 → 0 < k
    → bit_xor x (x - 1) ≡ k * 2 - 1
even_number m k x e some h l =
    let one : x ≡ m * 2 ^ 1 + 0 = omega arith in
    let less : x - 1 ≡ (m - 1) * 2 ^ 1 + 1 = omega arith in
    (λ j. bit_xor (one j) (less j)) ∙ xor_block 1 m (m - 1) 0 1 (omega arith) (omega arith)
    ∙ (λ j. h j * 2 + 1)
    ∙ omega arith

lowest_by : (a : Bool) (c m n : ℕ) → c ≡ cond a 1 0 → 0 < c + 2 * m
    → (0 < m → bit_xor m (m - 1) ≡ 2 ^ suc n - 1)
    → bit_xor (c + 2 * m) (c + 2 * m - 1) ≡ 2 ^ suc (cond (not a) (1 + n) 0) - 1
lowest_by true c m n e l h = odd_number m (c + 2 * m) (omega arith)
lowest_by false c m n e l h =
    let some : 0 < m = omega arith in
    let power : 2 ^ suc (1 + n) ≡ 2 ^ suc n * 2 = ap (λ k. 2 ^ suc k) (omega arith) ∙ pow-suc 2 (suc n) in
    even_number m (2 ^ suc n) (c + 2 * m) (omega arith) some (h some) (pow_pos (suc n))
    ∙ sym (ap (λ k. k - 1) power)

lowest : (v : Text) → 0 < mask_l (map is_hyphen v)
    → bit_xor (mask_l (map is_hyphen v)) (mask_l (map is_hyphen v) - 1) ≡ 2 ^ suc (before v) - 1
lowest [] l = absurd (omega arith)
lowest (b ∷ v) l = grind (arith, lowest_by, lowest v)

-- ---- they mark the piece and its hyphen

hyphen_no_letter : (b : ℕ) → is_hyphen b ≡ true → is_ascii_alphabetic b ≡ false
hyphen_no_letter b h = grind (arith, nat_tests)

some_later : (a : Bool) (m : ℕ) → 0 < cond a 1 0 + 2 * m → a ≡ false → 0 < m
some_later a m h k = grind arith

-- the hyphen is the bit above the bits of the piece
ended_by : (a : Bool) (b : ℕ) (v : Text) → is_hyphen b ≡ a
    → (a ≡ false → mask_l (map no_letter (take (suc (before v)) v)) ≡ bits (take (before v) v))
    → mask_l (map no_letter (take (suc (cond (not a) (1 + before v) 0)) (b ∷ v)))
    ≡ bits (take (cond (not a) (1 + before v) 0) (b ∷ v))
unfolding bits
ended_by a b v h k = grind (arith, hyphen_no_letter)

ended : (v : Text) → 0 < mask_l (map is_hyphen v)
    → mask_l (map no_letter (take (suc (before v)) v)) ≡ bits (take (before v) v)
ended [] l = absurd (omega arith)
ended (b ∷ v) l =
    ended_by (is_hyphen b) b v refl
    (λ none. ended v (some_later (is_hyphen b) (mask_l (map is_hyphen v)) l none))

-- no bit says that a byte is odd where all are letters and digits
abbrev odd_in : Text → ℕ
odd_in v = mask_l (map is_odd (take (suc (before v)) v))

hyphen_not_odd : (b : ℕ) → is_hyphen b ≡ true → is_odd b ≡ false
hyphen_not_odd b h = grind (arith, nat_tests)

odd_is : (b : ℕ) → is_hyphen b ≡ false → is_odd b ≡ not (is_ascii_alphanumeric b)
odd_is b h = grind (arith, nat_tests)

clear_by : (a : Bool) (b : ℕ) (v : Text) → is_hyphen b ≡ a
    → (a ≡ false → (odd_in v ≡ 0) ↔ (letters_or_digits (take (before v) v) ≡ true))
    → (mask_l (map is_odd (take (suc (cond (not a) (1 + before v) 0)) (b ∷ v))) ≡ 0)
    ↔ (letters_or_digits (take (cond (not a) (1 + before v) 0) (b ∷ v)) ≡ true)
clear_by true b v e h = grind (arith, hyphen_not_odd)
clear_by false b v e h =
    let next : 1 + before v ≡ suc (before v) = omega arith in
    grind (arith, odd_is)
  where
    both : (a o : Bool) (m : ℕ) (r : Bool) → o ≡ not a → (m ≡ 0) ↔ (r ≡ true)
        → (cond o 1 0 + 2 * m ≡ 0) ↔ ((a && r) ≡ true)
    both true true m r e h = absurd (cc)
    both true false m r e h = (λ l. h.0 (omega arith), λ l. ap (λ k. 0 + 2 * k) (h.1 l))
    both false true m r e h = (λ l. absurd (omega arith), λ l. absurd (cc))
    both false false m r e h = absurd (cc)

clear : (v : Text) → 0 < mask_l (map is_hyphen v)
    → (odd_in v ≡ 0) ↔ (letters_or_digits (take (before v) v) ≡ true)
clear [] l = absurd (omega arith)
clear (b ∷ v) l =
    clear_by (is_hyphen b) b v refl
    (λ none. clear v (some_later (is_hyphen b) (mask_l (map is_hyphen v)) l none))

module _ (v : Text) (ends : ℕ) (are : ends ≡ mask_l (map is_hyphen v)) (some : 0 < ends) where
  piece : bit_xor ends (ends - 1) ≡ 2 ^ suc (before v) - 1
  piece = grind (arith, lowest)

  within : (q : ℕ → Bool) (x : ℕ) → x ≡ mask_l (map q v)
      → bit_and x (bit_xor ends (ends - 1)) ≡ mask_l (map q (take (suc (before v)) v))
  within q x marks = grind (arith, piece, and_mask, low)

  -- the shape of a piece with another byte
  pub odd_shape : (odd : ℕ) → odd ≡ mask_l (map is_odd v) → (bit_and odd (bit_xor ends (ends - 1)) ≡ 0 → ⊥)
      → 0 ≡ shape_of (take (before v) v)
  unfolding shape_of
  odd_shape odd marks other =
      let none : letters_or_digits (take (before v) v) ≡ false =
      false_from_ne_true _ (λ h. other (within is_odd odd marks ∙ (clear v (omega (arith, are))).1 h)) in
      sym (ap (λ (a : Bool). cond a (bits (take (before v) v)) 0) none)

  -- and of one of letters and digits
  pub piece_shape : (odd others : ℕ) → odd ≡ mask_l (map is_odd v) → others ≡ mask_l (map no_letter v)
      → bit_and odd (bit_xor ends (ends - 1)) ≡ 0
      → bit_and others (bit_xor ends (ends - 1)) ≡ shape_of (take (before v) v)
  unfolding shape_of
  piece_shape odd others marks letters none =
      let word : letters_or_digits (take (before v) v) ≡ true =
      (clear v (omega (arith, are))).0 (sym (within is_odd odd marks) ∙ none) in
      within no_letter others letters ∙ ended v (omega (arith, are))
      ∙ sym (ap (λ (a : Bool). cond a (bits (take (before v) v)) 0) word)
