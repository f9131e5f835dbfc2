-- Bytes of one class that come first.
use Rattle.std.specs.Prelude.{◌≡◌, ℕ, suc, ◌<◌, ◌≤◌, ◌==◌, Bool, true, false, not, get_or}
use Rattle.iloc_spec_grammar.specs.Syntax.{Text}

-- whether the byte is a hyphen
abbrev pub is_hyphen : ℕ → Bool
is_hyphen b = b == 45

-- whether the byte fails the test
abbrev pub fails : (ℕ → Bool) → ℕ → Bool
fails p b = not (p b)

-- n of the first sixteen bytes pass the test one after the other, and then one fails
pub record IsRun (p : ℕ → Bool) (w : Text) (n : ℕ) : Type 0 where
  pub few : n ≤ 16
  pub pass : (i : ℕ) → i < n → p (get_or w i 0) ≡ true
  pub ends : n < 16 → p (get_or w n 0) ≡ false

-- at n a hyphen stands that has another one two bytes later, and nowhere before
pub record IsFirstSingle (w : Text) (n : ℕ) : Type 0 where
  pub few : n < 14
  pub there : is_hyphen (get_or w n 0) ≡ true
  pub after : is_hyphen (get_or w (suc (suc n)) 0) ≡ true
  pub first : (i : ℕ) → i < n → is_hyphen (get_or w i 0) ≡ true
      → is_hyphen (get_or w (suc (suc i)) 0) ≡ false
