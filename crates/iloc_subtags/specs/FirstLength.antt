-- The length of the first piece of a text.
use Rattle.std.specs.Prelude.{◌≡◌, ◌==◌, ℕ, [], ◌∷◌, cond, length, take, drop, suc}
use Rattle.iloc_spec_grammar.specs.Syntax.{Text, pieces}

-- the first piece of the text has this length, and the others are those of the text after its
-- hyphen
abbrev pub IsFirstLength : Text → ℕ → Type 0
IsFirstLength t n = pieces t ≡ take n t ∷ cond (n == length t) [] (pieces (drop (suc n) t))
