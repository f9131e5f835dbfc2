-- Tails: what follows the first piece of a text.
use Rattle.std.specs.Prelude.{◌≡◌, ℕ, Bool, List, [], ◌∷◌, length, nat_lt}
use Rattle.iloc_spec_grammar.specs.Syntax.{Text, pieces, dashes}

-- the pieces of a tail: those behind its first hyphen
abbrev pub tail_pieces : Text → List Text
tail_pieces [] = []
tail_pieces (c ∷ t) = pieces t

-- a tail is its pieces, each after a hyphen: it is empty or begins with one
abbrev pub IsTail : Text → Type 0
IsTail t = t ≡ dashes (tail_pieces t)

-- a piece has more bytes than this
abbrev pub is_longer : ℕ → Text → Bool
is_longer n p = nat_lt n (length p)
