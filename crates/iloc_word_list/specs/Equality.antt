-- The equality test of lists, item by item.
use Rattle.std.proofs.Common.{◌≡◌, ◌↔◌, Bool, true, List, nat_eq}
use Rattle.iloc_spec_grammar.specs.Syntax.{Text}
use lib.Pointwise.{pointwise}

-- the test answers true exactly at equal values
abbrev pub IsExactTest : {X : Type 0} → (X → X → Bool) → Type 0
IsExactTest {X} test = (x y : X) → (test x y ≡ true) ↔ (x ≡ y)

-- the equality test of lists of words
abbrev pub words_eq : List Text → List Text → Bool
words_eq = pointwise (pointwise nat_eq)
