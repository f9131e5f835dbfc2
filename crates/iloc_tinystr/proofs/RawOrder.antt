-- Raw forms of one size compare as their numbers do.
use Rattle.std.proofs.Common.{Equal, Ordering, ◌≡◌, ℕ, zero, suc, ◌+◌, ◌-◌, ◌*◌, ◌<◌, ◌≤◌, ◌&&◌, true, eqb, List, [], ◌∷◌, ◌++◌, length, refl, sym, ◌∙◌, ap, arith}
use Rattle.std.specs.Prelude.{nat_eq}
use Rattle.std.proofs.lemmas.Bool.Decides.{nat_tests}
use Rattle.std.proofs.Math.ListN.{replicate}
use Rattle.std.specs.Cmp.Derive.{then_next}
use Rattle.std.specs.Cmp.Lexicographic.{slice_cmp, pointwise}
use Rattle.std.specs.Int.{w64, from_be_bytes}
use Rattle.std.specs.Ordering.{nat_cmp, ordering_then}
use Rattle.std.specs.List.{list_all}
use Rattle.iloc_tinystr.specs.Number.{number}
use Rattle.iloc_tinystr.specs.TinyText.{is_text_byte}
use Rattle.iloc_tinystr.proofs.Loading.{first-text}
use Rattle.iloc_tinystr.proofs.RawForms.{Bytes, fit-padded, length-padded}

-- the same number, the first byte lowest
eq_step : (x y a b : ℕ) → x < 256 → y < 256 → eqb (x + 256 * a) (y + 256 * b) ≡ (eqb x y && eqb a b)
eq_step x y a b h k = grind (arith, nat_tests)

pub number_eq : (xs ys : List ℕ) → length xs ≡ length ys → Bytes xs → Bytes ys →
    eqb (number xs) (number ys) ≡ pointwise nat_eq xs ys
number_eq [] [] e h k = refl
number_eq (x ∷ xs) (y ∷ ys) e h k =
    eq_step x y (number xs) (number ys) (h 0) (k 0)
    ∙ ap (λ t. eqb x y && t) (number_eq xs ys (omega arith) (λ i. h (suc i)) (λ i. k (suc i)))
number_eq xs ys e h k = absurd (omega arith)

-- of texts, of any lengths
pub number_same : (a b : List ℕ) → list_all is_text_byte a ≡ true → list_all is_text_byte b ≡ true
    → eqb (number a) (number b) ≡ pointwise nat_eq a b
number_same [] [] h k = refl
number_same [] (y ∷ b) h k = grind (arith, first-text)
number_same (x ∷ a) [] h k = grind (arith, first-text)
number_same (x ∷ a) (y ∷ b) h k =
    let s = first-text x a h in
    let t = first-text y b k in
    eq_step x y (number a) (number b) (omega (arith, s.1)) (omega (arith, t.1))
    ∙ ap (λ e. eqb x y && e) (number_same a b s.2 t.2)

-- the number of a list after that of the bytes before it, the first byte highest
abbrev high_from : ℕ → List ℕ → ℕ
high_from a [] = a
high_from a (b ∷ bs) = high_from (a * 256 + b) bs

cmp_step : (a b x y : ℕ) → x < 256 → y < 256 →
    nat_cmp (a * 256 + x) (b * 256 + y) ≡ ordering_then (nat_cmp a b) (nat_cmp x y)
cmp_step a b x y h k = grind (arith, nat_tests)

then_equal : (o : Ordering) → o ≡ ordering_then o Equal
then_equal o = grind arith

high_cmp : (a b : ℕ) (xs ys : List ℕ) → length xs ≡ length ys → Bytes xs → Bytes ys →
    nat_cmp (high_from a xs) (high_from b ys) ≡ ordering_then (nat_cmp a b) (slice_cmp nat_cmp xs ys)
high_cmp a b [] [] e h k = then_equal (nat_cmp a b)
high_cmp a b (x ∷ xs) (y ∷ ys) e h k =
    high_cmp (a * 256 + x) (b * 256 + y) xs ys (omega arith) (λ i. h (suc i)) (λ i. k (suc i))
    ∙ sym (then_next (nat_cmp a b) (nat_cmp x y) _ (cmp_step a b x y (h 0) (k 0)) refl)
high_cmp a b xs ys e h k = absurd (omega arith)

from_eight_high : (xs : List ℕ) → length xs ≡ 8 → from_be_bytes w64 xs ≡ high_from 0 xs
from_eight_high (a ∷ b ∷ c ∷ d ∷ e ∷ f ∷ g ∷ i ∷ []) h = omega arith
from_eight_high xs h = absurd (omega arith)

-- zeros after both change nothing
pub level : (k : ℕ) → slice_cmp nat_cmp (replicate k 0) (replicate k 0) ≡ Equal
level zero = refl
level (suc k) = level k

cmp-padded : (xs ys : List ℕ) (k : ℕ) → length xs ≡ length ys →
    slice_cmp nat_cmp (xs ++ replicate k 0) (ys ++ replicate k 0) ≡ slice_cmp nat_cmp xs ys
cmp-padded [] [] k e = level k
cmp-padded (x ∷ xs) (y ∷ ys) k e = grind (arith, cmp-padded xs ys k)
cmp-padded xs ys k e = absurd (omega arith)

pub raw_cmp : (n : ℕ) (xs ys : List ℕ) → n ≤ 8 → length xs ≡ n → length ys ≡ n → Bytes xs → Bytes ys
    → nat_cmp (from_be_bytes w64 (xs ++ replicate (8 - n) 0)) (from_be_bytes w64 (ys ++ replicate (8 - n) 0))
    ≡ slice_cmp nat_cmp xs ys
raw_cmp n xs ys few ex ey h k =
    grind (arith, length-padded, from_eight_high, high_cmp, fit-padded, cmp-padded)
