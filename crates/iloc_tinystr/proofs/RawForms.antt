-- Raw forms: a text, followed by zeros.
use Rattle.std.proofs.Common.{◌≡◌, ℕ, zero, suc, ◌+◌, ◌-◌, ◌/◌, ◌^◌, ◌<◌, ◌≤◌, get_or, List, [], ◌∷◌, ◌++◌, length, take, drop, refl, sym, ◌∙◌, ap, arith}
use Rattle.std.proofs.lemmas.Nat.{le_bytes_8}
use Rattle.std.specs.Int.{w64, from_le_bytes, to_le_bytes}
use Rattle.std.proofs.Math.ListN.{replicate}
use Rattle.std.proofs.lemmas.List.{length-append, length-replicate, drop-replicate}
use Rattle.iloc_tinystr.specs.Number.{number, bytes, IsPacked}
use Rattle.iloc_tinystr.proofs.ByBytes.{number-bytes, length_bytes, bytes-number, fit-bytes}

pub from_eight : (xs : List ℕ) → length xs ≡ 8 → from_le_bytes w64 xs ≡ number xs
from_eight (a ∷ b ∷ c ∷ d ∷ e ∷ f ∷ g ∷ i ∷ []) h = omega arith
from_eight xs h = absurd (omega arith)

take_bytes : (n m x : ℕ) → n ≤ m → take n (bytes m x) ≡ bytes n x
unfolding bytes
take_bytes zero m x h = refl
take_bytes (suc n) zero x h = absurd (omega arith)
take_bytes (suc n) (suc m) x h = grind (arith, take_bytes n m (x / 256))

-- the lowest bytes of a word
pub lowest_bytes : (n x : ℕ) → n ≤ 8 → x < 2 ^ 64 → take n (to_le_bytes w64 x) ≡ bytes n x
lowest_bytes n x few small =
    let e : x < 256 ^ 8 = omega arith in
    let same : from_le_bytes w64 (bytes 8 x) ≡ x =
    from_eight (bytes 8 x) (length_bytes 8 x) ∙ number-bytes 8 x e in
    rw (le_bytes_8 (bytes 8 x) x (length_bytes 8 x) (fit-bytes 8 x) (sym same)) (take_bytes n 8 x few)

-- ---- bytes, followed by zeros

abbrev pub Bytes : List ℕ → Type 0
Bytes xs = (k : ℕ) → get_or xs k 0 < 256

pub number-zeros : (xs : List ℕ) (k : ℕ) → number (xs ++ replicate k 0) ≡ number xs
number-zeros [] zero = refl
number-zeros [] (suc k) = omega (arith, number-zeros [] k)
number-zeros (x ∷ xs) k = grind (arith, number-zeros xs k)

pub fit-padded : (xs : List ℕ) (k : ℕ) → Bytes xs → Bytes (xs ++ replicate k 0)
fit-padded [] zero fit i = omega arith
fit-padded [] (suc k) fit zero = omega arith
fit-padded [] (suc k) fit (suc i) = fit-padded [] k (λ j. omega arith) i
fit-padded (x ∷ xs) k fit zero = fit 0
fit-padded (x ∷ xs) k fit (suc i) = fit-padded xs k (λ j. fit (suc j)) i

pub length-padded : (xs : List ℕ) (n : ℕ) → n ≤ 8 → length xs ≡ n → length (xs ++ replicate (8 - n) 0) ≡ 8
length-padded xs n few long = grind (arith, length-append, length-replicate)

-- the n bytes of a shorter text's number are its raw form
pub bytes-text : (text : List ℕ) (k : ℕ) → Bytes text →
    bytes (length text + k) (number text) ≡ text ++ replicate k 0
bytes-text text k fit =
    let long : length (text ++ replicate k 0) ≡ length text + k = simp (length-append, length-replicate) in
    rw (← number-zeros text k, ← long) (bytes-number (text ++ replicate k 0) (fit-padded text k fit))

-- a raw form that was copied over zeros
pub widened_is : (n : ℕ) (raw copied : List ℕ) → copied ≡ raw →
    copied ++ drop n (replicate {A = ℕ} 8 0) ≡ raw ++ replicate (8 - n) 0
widened_is n raw copied same = λ i. same i ++ drop-replicate n 8 0 i

-- its number
pub number_widened : (n : ℕ) (raw : List ℕ) → n ≤ 8 → length raw ≡ n →
    from_le_bytes w64 (raw ++ replicate (8 - n) 0) ≡ number raw
number_widened n raw few long = grind (arith, from_eight, length-padded, number-zeros)

-- the eight bytes of a packed number are its bytes, followed by zeros
pub eight_padded : (n x : ℕ) (xs : List ℕ) → IsPacked n x → bytes n x ≡ xs →
    to_le_bytes w64 x ≡ xs ++ replicate (8 - length xs) 0
eight_padded n x xs h e =
    let few : length xs ≤ 8 = omega (arith, h.few, h.counted, ap length e) in
    le_bytes_8 _ x (length-padded xs (length xs) few refl) (fit-padded xs _ (λ k. rw (← e) (fit-bytes n x k)))
    (sym (number_widened (length xs) xs few refl ∙ ap number (sym e) ∙ h.whole))
