-- The bits of singletons: whether one is left.
use Rattle.std.proofs.Common.{arith, ◌≡◌, ℕ, ◌+◌, ◌<◌, Bool, true, false, List, nat_lt, ap, ◌∙◌, if◌then◌else◌}
use Rattle.std.specs.Char.{is_ascii_alphanumeric, to_ascii_lowercase}
use Rattle.std.specs.Int.{bit_at}
use Rattle.std.proofs.lemmas.Bool.{false_from_ne_true}
use Rattle.std.proofs.lemmas.Bool.Decides.{nat_tests}
use Rattle.iloc_faults.specs.States.{AreSingletonsSeen, bit_place}
use Rattle.iloc_expected.proofs.Coming.{IsLeft}
use Rattle.iloc_expected.proofs.Samples.{HasLeft}

-- the singleton of a bit
abbrev byte_of : ℕ → ℕ
byte_of k = if nat_lt k 10 then 48 + k else 87 + k

byte_letter : (k : ℕ) → k < 36 → is_ascii_alphanumeric (byte_of k) ≡ true
byte_letter k h = grind (arith, nat_tests)

byte_place : (k : ℕ) → k < 36 → bit_place (to_ascii_lowercase (byte_of k)) ≡ k
byte_place k h = grind (arith, nat_tests)

place_small : (c : ℕ) → is_ascii_alphanumeric c ≡ true → bit_place (to_ascii_lowercase c) < 36
place_small c h = grind (arith, nat_tests)

module _ (bits : ℕ) (seen : List ℕ) (left : Bool) (h : AreSingletonsSeen bits seen) where
  pub has_left : (left ≡ true → (k : ℕ) × (k < 36) × (bit_at bits k ≡ 0)) → HasLeft seen left
  has_left some e =
      let k = some e in let a = byte_letter k.0 k.1 in grind (arith, false_from_ne_true, byte_place)

  pub is_left : (left ≡ false → (k : ℕ) → k < 36 → bit_at bits k ≡ 1) → IsLeft seen left
  is_left none e c a = grind (arith, place_small)
