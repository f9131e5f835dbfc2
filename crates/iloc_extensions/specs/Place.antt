-- Where a new singleton belongs among ascending ones.
use Rattle.std.specs.Prelude.{ℕ, suc, List, [], ◌∷◌, nat_lt, if◌then◌else◌}
use Rattle.iloc_spec_grammar.specs.Syntax.{Text}

-- how many stand before the first greater one
abbrev pub how_many_up_to : ℕ → List (ℕ × List Text) → ℕ
how_many_up_to c [] = 0
how_many_up_to c ((s, _) ∷ os) = if nat_lt c s then 0 else suc (how_many_up_to c os)
