-- Normal words that are in lower case already.
use Rattle.std.proofs.Common.{◌≡◌, List, [], ◌∷◌, map, refl, ap₂}
use Rattle.std.specs.List.{AllByRecursion}
use Rattle.iloc_spec_grammar.specs.Syntax.{Text, Variant, lower}
use Rattle.iloc_spec_grammar.specs.Values.{IsNormal}

pub lower-variants : (ws : List Text) → AllByRecursion (IsNormal Variant) ws → map lower ws ≡ ws
lower-variants [] h = refl
lower-variants (w ∷ ws) h = ap₂ (λ v vs. v ∷ vs) h.0.1 (lower-variants ws h.1)
