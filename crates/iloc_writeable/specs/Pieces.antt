-- Texts that are pieces with hyphens between them.
use Rattle.std.specs.Prelude.{ℕ, Bool, true, false, List, [], ◌∷◌}
use Rattle.std.specs.List.{flat_map, join_with_byte}

-- the pieces with a hyphen between each two, and one before them if they do not stand first
abbrev pub hyphened : Bool → List (List ℕ) → List ℕ
hyphened true ps = join_with_byte 45 ps
hyphened false ps = flat_map (λ p. 45 ∷ p) ps

-- whether there is a piece
abbrev pub is_there : List (List ℕ) → Bool
is_there [] = false
is_there (p ∷ ps) = true
