-- The digits of numbers below a hundred, and of ranges of them.
use Rattle.std.proofs.Common.{◌≡◌, ℕ, zero, suc, ◌+◌, ◌/◌, ◌%◌, ◌^◌, ◌<◌, ◌≤◌, List, [], ◌∷◌, ◌++◌, take, length, get_or, sym, ap, ◌∙◌, arith}
use Rattle.std.specs.List.{AllByRecursion}
use Rattle.std.specs.Fmt.{decimal}
use Rattle.std.specs.Int.{w64, from_le_bytes, to_le_bytes}
use Rattle.std.proofs.lemmas.Nat.{le_bytes_8}
use Rattle.std.proofs.lemmas.Fmt.{decimal_digit, decimal_step}
use Rattle.iloc_program.specs.Listing.{range_column}

pub one_digit : (n d : ℕ) → n < 10 → d ≡ 48 + n → decimal n ≡ d ∷ []
one_digit n d few is = decimal_digit n few ∙ ap (λ (k : ℕ). k ∷ []) (sym is)

pub two_digits : (n t u : ℕ) → 10 ≤ n → n < 100 → t ≡ 48 + n / 10 → u ≡ 48 + n % 10 →
    decimal n ≡ t ∷ u ∷ []
two_digits n t u more few tens units =
    let high : n / 10 < 10 = omega arith in
    let small : n < 2 ^ 64 = omega arith in
    decimal_step n more small ∙ (λ j. one_digit (n / 10) t high tens j ++ (sym units j ∷ []))

-- from its two numbers to the column
pub range_of : (m n : ℕ) {a b : List ℕ} → decimal m ≡ a → decimal n ≡ b →
    range_column m n ≡ 9 ∷ a ++ (46 ∷ 46 ∷ b ++ 9 ∷ [])
range_of m n from to = λ j. 9 ∷ from j ++ (46 ∷ 46 ∷ to j ++ 9 ∷ [])

small_at : (bytes : List ℕ) → AllByRecursion (λ b. b < 256) bytes → (i : ℕ) → get_or bytes i 0 < 256
small_at [] h i = omega arith
small_at (b ∷ bytes) h zero = h.0
small_at (b ∷ bytes) h (suc i) = small_at bytes h.1 i

-- the first of the eight bytes of a number
pub packed : (count : ℕ) (bytes : List ℕ) (n : ℕ) → length bytes ≡ 8 → AllByRecursion (λ b. b < 256) bytes →
    n ≡ from_le_bytes w64 bytes → take count (to_le_bytes w64 n) ≡ take count bytes
packed count bytes n eight small is = ap (take count) (le_bytes_8 bytes n eight (small_at bytes small) is)
