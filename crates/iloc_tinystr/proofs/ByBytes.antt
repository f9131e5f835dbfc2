-- What operations on a number do to each of its bytes.
use Rattle.std.proofs.Common.{◌≡◌, ℕ, zero, suc, ◌+◌, ◌*◌, ◌/◌, ◌%◌, ◌^◌, ◌<◌, Bool, true, ◌&&◌, eqb, ltb, get_or, List, [], ◌∷◌, length, map, refl, ◌∙◌, ap, arith, pow-suc}
use Rattle.std.proofs.lemmas.List.{map-id}
use borrow.Author.Tests.{eqb-true, ltb-true}
use Rattle.std.specs.Cmp.{first_so, second_so}
use Rattle.std.specs.Int.RustNames.{bit_and, bit_or, bit_xor}
use Rattle.std.proofs.lemmas.Nat.{and_block, or_block, xor_block}
use Rattle.iloc_tinystr.specs.Number.{number, bytes, spread}

-- ---- facts of one byte, by trying each

abbrev pub each_below : ℕ → (ℕ → Bool) → Bool
each_below zero t = true
each_below (suc n) t = t 0 && each_below n (λ b. t (suc b))

pub tried : (n : ℕ) (t : ℕ → Bool) → each_below n t ≡ true → (b : ℕ) → b < n → t b ≡ true
tried zero t e b l = absurd (omega arith)
tried (suc n) t e zero l = first_so (t 0) _ e
tried (suc n) t e (suc b) l = tried n (λ k. t (suc k)) (second_so (t 0) _ e) b (omega arith)

-- a function of bytes that gives bytes
abbrev pub Keeps : (ℕ → ℕ) → Type 0
Keeps f = (b : ℕ) → b < 256 → f b < 256

-- a function that keeps each of the 256 bytes a byte
pub kept : (f : ℕ → ℕ) → each_below 256 (λ b. ltb (f b) 256) ≡ true → Keeps f
kept f e b l = ltb-true (f b) 256 (tried 256 (λ b. ltb (f b) 256) e b l)

-- two functions that are equal at each of the 256 bytes
pub alike : (f g : ℕ → ℕ) → each_below 256 (λ b. eqb (f b) (g b)) ≡ true → (b : ℕ) → b < 256 → f b ≡ g b
alike f g e b l = eqb-true (f b) (g b) (tried 256 (λ b. eqb (f b) (g b)) e b l)

pub same_bytes : (f g : ℕ → ℕ) → ((b : ℕ) → b < 256 → f b ≡ g b) → (n x : ℕ)
    → map f (bytes n x) ≡ map g (bytes n x)
unfolding bytes
same_bytes f g e zero x = refl
same_bytes f g e (suc n) x =
    let here = e (x % 256) (omega arith) in λ i. here i ∷ same_bytes f g e n (x / 256) i

-- ---- a number and its bytes

pub number-bytes : (n x : ℕ) → x < 256 ^ n → number (bytes n x) ≡ x
unfolding bytes
number-bytes zero x h = omega arith
number-bytes (suc n) x h = grind (arith, pow-suc, number-bytes n (x / 256))

pub length_bytes : (n x : ℕ) → length (bytes n x) ≡ n
unfolding bytes
length_bytes zero x = refl
length_bytes (suc n) x = ap suc (length_bytes n (x / 256))

pub fit-bytes : (n x k : ℕ) → get_or (bytes n x) k 0 < 256
unfolding bytes
fit-bytes zero x k = omega arith
fit-bytes (suc n) x zero = omega arith
fit-bytes (suc n) x (suc k) = fit-bytes n (x / 256) k

-- the number of a list of bytes has those bytes
pub bytes-number : (xs : List ℕ) → ((k : ℕ) → get_or xs k 0 < 256) → bytes (length xs) (number xs) ≡ xs
unfolding bytes
bytes-number [] h = refl
bytes-number (x ∷ xs) h =
    let low : (x + 256 * number xs) % 256 ≡ x = omega (arith, h 0) in
    let rest : (x + 256 * number xs) / 256 ≡ number xs = omega (arith, h 0) in
    rw (low, rest, bytes-number xs (λ k. h (suc k)))

-- ---- an operation goes by the byte

-- a number of what f gives of each of the eight bytes of x
pub record Bytewise (x : ℕ) (f : ℕ → ℕ) (y : ℕ) : Type 0 where
  pub keeps : Keeps f
  pub made : y ≡ number (map f (bytes 8 x))

pub itself : (x : ℕ) → x < 2 ^ 64 → Bytewise x (λ b. b) x
itself x small = grind (arith, map-id, number-bytes)

pub constant : (x c : ℕ) → ltb c 256 ≡ true → Bytewise x (λ _. c) (spread c 8)
unfolding bytes spread
constant x c e = grind arith

-- by a function that is equal at each of the 256 bytes
pub alike_made : {x y : ℕ} {f : ℕ → ℕ} → Bytewise x f y → (g : ℕ → ℕ) →
    each_below 256 (λ b. eqb (f b) (g b)) ≡ true → Bytewise x g y
alike_made {x} {f = f} p g e = record {
  keeps = λ b l. rw (← alike f g e b l) (p.keeps b l);
  made = p.made ∙ ap number (same_bytes f g (alike f g e) 8 x);
}

-- an operation that goes by blocks of bits
pub record ByBlocks (o : ℕ → ℕ → ℕ) : Type 0 where
  pub zeros : o 0 0 ≡ 0
  pub block : (k a b r s : ℕ) → r < 2 ^ k → s < 2 ^ k →
      o (a * 2 ^ k + r) (b * 2 ^ k + s) ≡ o a b * 2 ^ k + o r s

pub ands : ByBlocks bit_and
ands = record { zeros = refl; block = and_block }

pub ors : ByBlocks bit_or
ors = record { zeros = refl; block = or_block }

pub xors : ByBlocks bit_xor
xors = record { zeros = refl; block = xor_block }

module _ {o : ℕ → ℕ → ℕ} (by : ByBlocks o) where
  pub first_byte : (c d r s : ℕ) → c < 256 → d < 256 → o (c + 256 * r) (d + 256 * s) ≡ o c d + 256 * o r s
  first_byte c d r s c-lt d-lt =
      let left : c + 256 * r ≡ r * 2 ^ 8 + c = omega arith in
      let right : d + 256 * s ≡ s * 2 ^ 8 + d = omega arith in
      (λ i. o (left i) (right i)) ∙ by.block 8 r s c d c-lt d-lt ∙ omega arith

  pub by_byte : (f g : ℕ → ℕ) → Keeps f → Keeps g → (n x : ℕ)
      → o (number (map f (bytes n x))) (number (map g (bytes n x)))
      ≡ number (map (λ b. o (f b) (g b)) (bytes n x))
  unfolding bytes
  by_byte f g kf kg zero x = by.zeros
  by_byte f g kf kg (suc n) x = grind (arith, first_byte, by_byte f g kf kg n (x / 256))

  -- of two numbers that go by bytes
  pub of_both : {x a b : ℕ} {f g : ℕ → ℕ} → Bytewise x f a → Bytewise x g b →
      each_below 256 (λ b. ltb (o (f b) (g b)) 256) ≡ true → Bytewise x (λ b. o (f b) (g b)) (o a b)
  of_both {x} {f = f} {g = g} p q e = record {
    keeps = kept (λ b. o (f b) (g b)) e;
    made = (λ i. o (p.made i) (q.made i)) ∙ by_byte f g p.keeps q.keeps 8 x;
  }
