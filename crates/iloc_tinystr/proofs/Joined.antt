-- Two pieces, one after the other.
use Rattle.std.proofs.Common.{◌≡◌, ℕ, zero, suc, ◌+◌, ◌*◌, ◌%◌, ◌^◌, ◌<◌, ◌≤◌, List, [], ◌∷◌, ◌++◌, length, ap, arith, length-append, pow-suc}
use Rattle.std.proofs.Math.Nat.{mul_assoc, mul_comm}
use Rattle.iloc_tinystr.specs.Number.{number, bytes, IsPacked}
use Rattle.iloc_tinystr.proofs.ByBytes.{bytes-number, fit-bytes}
use Rattle.iloc_tinystr.proofs.Packed.{Makes, makes, number-lt, same_power, le_power, word-lt}
use Rattle.iloc_tinystr.proofs.RawForms.{Bytes}

number-append : (xs ys : List ℕ) → number (xs ++ ys) ≡ number xs + 256 ^ length xs * number ys
number-append [] ys = omega arith
number-append (x ∷ xs) ys = grind (arith, pow-suc, mul_comm, mul_assoc, number-append xs ys)

fit-append : (xs ys : List ℕ) → Bytes xs → Bytes ys → Bytes (xs ++ ys)
fit-append [] ys f g k = g k
fit-append (x ∷ xs) ys f g zero = f 0
fit-append (x ∷ xs) ys f g (suc k) = fit-append xs ys (λ j. f (suc j)) g k

module _ (n m x y : ℕ) (xs ys : List ℕ) (hx : IsPacked n x) (hy : IsPacked m y) (ex : bytes n x ≡ xs)
    (ey : bytes m y ≡ ys) (few : length xs + length ys ≤ 8) where
  fit : Bytes (xs ++ ys)
  fit = grind (arith, fit-append, fit-bytes)

  size : length (xs ++ ys) ≡ n + m
  size = grind (arith, length-append)

  bound : number (xs ++ ys) < 2 ^ 64
  bound = omega (
    arith,
    number-lt (length (xs ++ ys)) (number (xs ++ ys)),
    ap number (bytes-number (xs ++ ys) fit),
    same_power (length (xs ++ ys)),
    le_power (8 * length (xs ++ ys)) 64 (omega (arith, length-append xs ys, few)),
  )

  value : number (xs ++ ys) ≡ x + y * 2 ^ (8 * n)
  value = grind (arith, number-append, mul_comm, same_power)

  joined : Makes (n + m) (x + y * 2 ^ (8 * n) % 18446744073709551616) (xs ++ ys)
  joined = makes (n + m) _ (xs ++ ys) size (omega (arith, size, length-append xs ys, few)) fit
      (omega (arith, value, bound))

  pub joined_word : IsPacked (n + m) (x + y * 2 ^ (8 * n) % 18446744073709551616)
  joined_word = joined.word

  pub joined_shows : bytes (n + m) (x + y * 2 ^ (8 * n) % 18446744073709551616) ≡ xs ++ ys
  joined_shows = joined.shows

  pub joined_fits : x + y * 2 ^ (8 * n) % 18446744073709551616 < 18446744073709551616
  joined_fits = grind (arith, word-lt, joined_word)
