-- Which locales a range stands for: the extended filtering of RFC 4647, section 3.3.2, over the pieces of
-- normal texts. The wildcard is `und`, the language that is unknown (UTS #35, section 3.1,
-- `unicode_language_subtag`).
use Rattle.std.specs.Prelude.{◌≡◌, ◌≢◌, ◌⊎◌, List, [], ◌∷◌, length, codes}
use Rattle.iloc_spec_grammar.specs.Syntax.{Text}

-- The pieces that are wanted, and those that are given. If the first of both are equal, both are done (step
-- C). If not, the given one is passed over, unless it is a singleton (steps D and E). If none is given, none
-- may be wanted (steps B and 4).
abbrev pub Follows : List Text → List Text → Type 0
Follows [] ps = Unit {0}
Follows (w ∷ ws) [] = ⊥
Follows (w ∷ ws) (p ∷ ps) =
    ((w ≡ p) × Follows ws ps) ⊎ ((w ≢ p) × (length p ≢ 1) × Follows (w ∷ ws) ps)

-- the pieces of a text match those of a range: its first piece is `und` or that of the text (step 2)
abbrev pub Matches : List Text → List Text → Type 0
Matches (p ∷ ps) (w ∷ ws) = ((w ≡ codes "und") ⊎ (w ≡ p)) × Follows ws ps
Matches ps ws = ⊥
