-- Numbers that are those of at most eight bytes.
use Rattle.std.proofs.Common.{◌≡◌, ℕ, zero, suc, ◌+◌, ◌*◌, ◌/◌, ◌%◌, ◌^◌, ◌<◌, ◌≤◌, get_or, List, length, map, refl, ◌∙◌, ap, arith, pow-suc}
use Rattle.std.proofs.Math.Nat.{pow-le-pow_right}
use Rattle.std.proofs.lemmas.Nat.{pow-add}
use Rattle.std.proofs.lemmas.List.{length-map}
use Rattle.iloc_tinystr.specs.Number.{number, bytes, IsPacked}
use Rattle.iloc_tinystr.proofs.ByBytes.{length_bytes, bytes-number, Keeps, Bytewise}

pub number-lt : (n x : ℕ) → number (bytes n x) < 256 ^ n
unfolding bytes
number-lt zero x = omega arith
number-lt (suc n) x = grind (arith, pow-suc, number-lt n (x / 256))

pub below : (n x : ℕ) → IsPacked n x → x < 256 ^ n
below n x h = omega (arith, number-lt n x, h.whole)

pub same_power : (m : ℕ) → 256 ^ m ≡ 2 ^ (8 * m)
same_power zero = refl
same_power (suc m) =
    let turned : 8 * suc m ≡ 8 * m + 8 = omega arith in
    omega (arith, pow-suc 256 m, same_power m, pow-add 2 (8 * m) 8, ap (λ k. 2 ^ k) turned)

pub le_power : (i j : ℕ) → i ≤ j → 2 ^ i ≤ 2 ^ j
le_power i j le = grind (arith, pow-le-pow_right)

pub lt_power : (i j : ℕ) → 2 ^ i < 2 ^ j → i < j
lt_power i j h = grind (arith, le_power j i)

pub word-lt : (n x : ℕ) → IsPacked n x → x < 2 ^ 64
word-lt n x h = omega (arith, below n x h, same_power n, le_power (8 * n) 64 (omega (arith, h.few)))

pub wider : (h : ℕ → ℕ) → h 0 ≡ 0 → (n m x : ℕ) → n ≤ m → x < 256 ^ n →
    number (map h (bytes m x)) ≡ number (map h (bytes n x))
unfolding bytes
wider h e zero zero x le lt = refl
wider h e zero (suc m) x le lt = grind (arith, wider h e zero m (x / 256))
wider h e (suc n) zero x le lt = absurd (omega arith)
wider h e (suc n) (suc m) x le lt = grind (arith, pow-suc, wider h e n m (x / 256))

-- the number of a list of bytes is a word, and shows that list
pub record Makes (n y : ℕ) (ys : List ℕ) : Type 0 where
  pub word : IsPacked n y
  pub shows : bytes n y ≡ ys

pub makes : (n y : ℕ) (ys : List ℕ) → length ys ≡ n → n ≤ 8 → ((k : ℕ) → get_or ys k 0 < 256) →
    y ≡ number ys → Makes n y ys
makes n y ys long few fit e = grind (arith, bytes-number, length_bytes)

pub fit-map : (f : ℕ → ℕ) → Keeps f → (n x k : ℕ) → get_or (map f (bytes n x)) k 0 < 256
unfolding bytes
fit-map f keeps zero x k = omega arith
fit-map f keeps (suc n) x zero = keeps (x % 256) (omega arith)
fit-map f keeps (suc n) x (suc k) = fit-map f keeps n (x / 256) k

pub changed : {n x y : ℕ} {f : ℕ → ℕ} → IsPacked n x → f 0 ≡ 0 → Bytewise x f y →
    Makes n y (map f (bytes n x))
changed {n} {x} {y} {f} h none b =
    makes n y (map f (bytes n x)) (length-map (bytes n x) f ∙ length_bytes n x) h.few (fit-map f b.keeps n x)
    (b.made ∙ wider f none n 8 x h.few (below n x h))

-- the first byte of a word that has one, and the second
pub first_is : (n x : ℕ) (xs : List ℕ) → bytes n x ≡ xs → 0 < length xs → x % 256 ≡ get_or xs 0 0
unfolding bytes
first_is n x xs h k = grind arith

pub second_is : (n x : ℕ) (xs : List ℕ) → bytes n x ≡ xs → 1 < length xs → x / 256 % 256 ≡ get_or xs 1 0
unfolding bytes
second_is (suc (suc n)) x xs e some = ap (λ ys. get_or ys 1 0) e
second_is n x xs e some = absurd (omega (arith, ap length e))
