-- Where an other extension stands, and where a new one belongs.
use Rattle.std.specs.Prelude.{ℕ, suc, ◌==◌, List, [], ◌∷◌, nat_lt, if◌then◌else◌}
use Rattle.iloc_spec_grammar.specs.Syntax.{Block}

-- how many stand before the first of this singleton
abbrev pub place_of_singleton : ℕ → List Block → ℕ
place_of_singleton c [] = 0
place_of_singleton c ((s, _) ∷ os) = if s == c then 0 else suc (place_of_singleton c os)

-- how many stand before the first that is not less
abbrev pub how_many_less : ℕ → List Block → ℕ
how_many_less c [] = 0
how_many_less c ((s, _) ∷ os) = if nat_lt s c then suc (how_many_less c os) else 0
