-- The bytes of words: the first two, and those of `true`.
use Rattle.std.proofs.Common.{take, ◌≡◌, ℕ, ◌<◌, ◌≤◌, true, false, length, get_or, bit_or, ◌==◌, refl, arith, Bool, not, ◌||◌, ◌↔◌}
use Rattle.std.specs.Char.{is_ascii_alphanumeric, to_ascii_lowercase}
use Rattle.std.proofs.lemmas.Bool.{eqb-true, cases_Bool, eq-eqb, agree_below}
use Rattle.std.proofs.lemmas.Bool.Decides.{nat_tests}
use Rattle.iloc_spec_grammar.specs.Syntax.{code_u, code_t, Text, lower, is_true}
use Rattle.iloc_pieces.proofs.LaneLemmas.{of_byte}

-- ---- the bytes of pieces

-- the first two bytes in lower case
pub first_two : (w : Text) → 2 ≤ length w →
    (get_or (lower (take 2 w)) 0 0 ≡ to_ascii_lowercase (get_or w 0 0))
    × (get_or (lower (take 2 w)) 1 0 ≡ to_ascii_lowercase (get_or w 1 0))
unfolding lower
first_two w h = grind arith

-- bit 5 makes a letter lower case, and digits have it
pub low_bit : (c : ℕ) → is_ascii_alphanumeric c ≡ true → bit_or c 32 ≡ to_ascii_lowercase c
low_bit c h = eqb-true _ _
    (of_byte is_ascii_alphanumeric (λ b. bit_or b 32 == to_ascii_lowercase b) refl c (small c h) h)
  where
    small : (c : ℕ) → is_ascii_alphanumeric c ≡ true → c < 256
    small c h = grind (arith, nat_tests)

-- whether all bytes that pass the first test pass the second
abbrev pub imply : (ℕ → Bool) → (ℕ → Bool) → Bool
imply p q = agree_below (λ b. not (p b) || q b) (λ _. true) 256

-- bit 5 makes a letter lower case, and no other byte that letter
pub same_letter : (l : ℕ) → imply (λ b. bit_or b 32 == l) (λ b. to_ascii_lowercase b == l) ≡ true →
    imply (λ b. to_ascii_lowercase b == l) (λ b. bit_or b 32 == l) ≡ true
    → (c : ℕ) → c < 256 → (bit_or c 32 ≡ l) ↔ (to_ascii_lowercase c ≡ l)
same_letter l to from c small = (
  λ e. eqb-true _ _
      (of_byte (λ b. bit_or b 32 == l) (λ b. to_ascii_lowercase b == l) to c small (eq-eqb _ _ e)),
  λ e. eqb-true _ _
      (of_byte (λ b. to_ascii_lowercase b == l) (λ b. bit_or b 32 == l) from c small (eq-eqb _ _ e)),
)

pub no_true : (p : Text) → (is_true (lower p) ≡ true → ⊥) → is_true (lower p) ≡ false
no_true p h = grind (arith, cases_Bool)

abbrev pub TrueBytes : Text → ℕ → Type 0
TrueBytes w n =
    (n ≡ 4) × (to_ascii_lowercase (get_or w 0 0) ≡ code_t) × (to_ascii_lowercase (get_or w 1 0) ≡ 114)
    × (to_ascii_lowercase (get_or w 2 0) ≡ code_u) × (to_ascii_lowercase (get_or w 3 0) ≡ 101)
