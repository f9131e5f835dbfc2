-- What a look at the next piece tells.
use Rattle.std.specs.Prelude.{ℕ, Bool, false, List, [], ◌∷◌, length, Option, Some, None}
use Rattle.iloc_spec_grammar.specs.Syntax.{Text, Kind}
use Rattle.iloc_subtags.specs.Lengths.{has_length}

-- a piece is left, and words of the kind may be as long
abbrev pub next_has_length : Kind → List Text → Bool
next_has_length k [] = false
next_has_length k (p ∷ ps) = has_length k (length p)

-- the first piece if it has one byte, as a singleton has
abbrev pub byte_at : List Text → Option ℕ
byte_at [] = None
byte_at ([] ∷ ps) = None
byte_at ((b ∷ []) ∷ ps) = Some b
byte_at ((b ∷ c ∷ p) ∷ ps) = None
