-- Bytes as one number, the first lowest; and back.
use Rattle.std.specs.Prelude.{◌≡◌, ℕ, zero, suc, ◌+◌, ◌*◌, ◌/◌, ◌%◌, ◌<◌, ◌≤◌, Bool, List, [], ◌∷◌, length}
use Rattle.std.specs.Prelude.{slice_index, map, if◌then◌else◌}

-- the number of the bytes
abbrev pub number : List ℕ → ℕ
number [] = 0
number (b ∷ bs) = b + 256 * number bs

-- the lowest n bytes of a number
unfoldable pub bytes : ℕ → ℕ → List ℕ
bytes zero x = []
bytes (suc n) x = x % 256 ∷ bytes n (x / 256)

-- the number is that of n bytes, which are at most eight
pub record IsPacked (n x : ℕ) : Type 0 where
  pub few : n ≤ 8
  pub counted : length (bytes n x) ≡ n
  pub whole : number (bytes n x) ≡ x

-- 128 if the test holds
abbrev pub flag : (ℕ → Bool) → ℕ → ℕ
flag p b = if p b then 128 else 0

-- the number of eight bytes, each 128 if the test holds of that byte of x
unfoldable pub flags : (ℕ → Bool) → ℕ → ℕ
flags p x = number (map (flag p) (bytes 8 x))

-- the number of n bytes that are all c
unfoldable pub spread : ℕ → ℕ → ℕ
spread c zero = 0
spread c (suc n) = c + 256 * spread c n

-- each of the eight lowest bytes of a number is below 128
abbrev pub IsLow : ℕ → Type 0
IsLow x = (k : ℕ) → slice_index (bytes 8 x) k < 128
