-- Bytes as bit masks.
use Rattle.std.specs.Prelude.{◌≡◌, ◌≤◌, ◌⊎◌, ℕ, Bool, not, ◌&&◌, ◌==◌, [], ◌∷◌, ◌++◌, map, length, take}
use Rattle.std.specs.Simd.Lanes.{mask_l}
use Rattle.std.specs.Char.{is_ascii_alphabetic, is_ascii_alphanumeric}
use Rattle.iloc_spec_grammar.specs.Syntax.{Text}
use Rattle.iloc_pieces.specs.Run.{is_hyphen}
use Rattle.iloc_pieces.specs.declared.marks.Marks.{Marks}

-- whether the byte is no letter, or in no word and no hyphen
abbrev pub no_letter : ℕ → Bool
no_letter b = not (is_ascii_alphabetic b)

abbrev pub is_odd : ℕ → Bool
is_odd b = not (is_ascii_alphanumeric b) && not (b == 45)

-- bit i of each mask is the test of byte i, and no bit is set above the bytes
pub record AreMarks (v : Text) (m : Marks) : Type 0 where
  pub ends : m.ends ≡ mask_l (map is_hyphen v)
  pub others : m.others ≡ mask_l (map no_letter v)
  pub odd : m.odd ≡ mask_l (map is_odd v)

-- the bytes that are left, with the hyphen that ends them here
abbrev pub closed : Text → Text
closed rest = rest ++ 45 ∷ []

-- the marks of the first bytes that are left, closed by a hyphen: of sixteen, or of all
pub record AreKnown (rest : Text) (m : Marks) : Type 0 where
  pub known : ℕ
  pub few : known ≤ 16
  pub enough : (16 ≤ known) ⊎ (length (closed rest) ≤ known)
  pub marks : AreMarks (take known (closed rest)) m

-- the same of fewer bytes, if a hyphen is among them
pub record AreMarksSeen (rest : Text) (m : Marks) : Type 0 where
  pub known : ℕ
  pub few : known ≤ 16
  pub enough : m.ends ≡ 0 → (16 ≤ known) ⊎ (length (closed rest) ≤ known)
  pub marks : AreMarks (take known (closed rest)) m
