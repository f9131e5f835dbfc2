-- What is known of the first piece of a text.
use Rattle.std.specs.Prelude.{◌≡◌, ◌⊎◌, ℕ, ◌≤◌, ◌<◌, length, take}
use Rattle.iloc_spec_grammar.specs.Syntax.{Text, pieces, first_piece}
use Rattle.iloc_pieces.specs.Marks.{AreMarks, closed}
use Rattle.iloc_pieces.specs.Shape.{shape_of}
use Rattle.iloc_pieces.specs.declared.marks.Marks.{Marks}

-- the length and the shape of a piece of fewer than sixteen bytes, and the marks of some bytes from it on, up
-- to its end at least
pub record HasShape (rest : Text) (n s : ℕ) (m : Marks) : Type 0 where
  pub few : n < 16
  pub long : n ≡ length (first_piece (pieces rest))
  pub shape : s ≡ shape_of (first_piece (pieces rest))
  pub known : ℕ
  pub enough : n < known
  pub most : known ≤ 16
  pub marks : AreMarks (take known (closed rest)) m

-- a longer piece
pub record IsLong (rest : Text) (n s : ℕ) : Type 0 where
  pub most : n ≡ 16
  pub long : 16 ≤ length (first_piece (pieces rest))
  pub shape : s ≡ 0

-- one or the other
abbrev pub IsPieceKnown : Text → ℕ → ℕ → Marks → Type 0
IsPieceKnown rest n s m = HasShape rest n s m ⊎ IsLong rest n s
