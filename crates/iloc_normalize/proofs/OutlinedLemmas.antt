-- When an outline says nothing.
use Rattle.std.proofs.Common.{◌≡◌, inl, inr, ℕ, ◌+◌, ◌≤◌, List, [], ◌∷◌, length, length-append, arith}
use Rattle.iloc_spec_grammar.specs.Syntax.{Text, pieces, join, dashes}
use Rattle.iloc_spec_grammar.proofs.PartTexts.{join-dashes}
use Rattle.iloc_spec_grammar.proofs.PiecesLaws.{at_pieces, join-pieces}
use Rattle.iloc_normalize.specs.Answered.{IsBeyond, IsNothingOnlyIf}
use Rattle.iloc_normalize.specs.declared.answered.Answered.{Answered}
use Rattle.iloc_normalize.specs.declared.answered.Answered.TheVariants as answered

-- a text has at most one piece more than bytes
few_dashes : (ps : List Text) → length ps ≤ length (dashes ps)
few_dashes [] = omega arith
few_dashes (p ∷ ps) = grind (arith, few_dashes ps, length-append)

few_joined : (t p : Text) (ps : List Text) → join (p ∷ ps) ≡ t → length (p ∷ ps) ≤ length t + 1
few_joined t p ps e = grind (arith, join-dashes, length-append, few_dashes)

pub few_pieces : (t : Text) → length (pieces t) ≤ length t + 1
few_pieces t = at_pieces (λ ps. join ps ≡ t → length ps ≤ length t + 1) (few_joined t) t (join-pieces t)

-- a short text is not beyond an outline
pub not_beyond : (t : Text) (room : ℕ) → length t ≤ 48 → 64 ≤ room → IsBeyond room t → ⊥
not_beyond t room short wide (inl many) = grind (arith, few_pieces)
not_beyond t room short wide (inr narrow) = omega (arith, narrow, short, wide)

-- so something is answered of it
pub few_answered : (t : Text) (room : ℕ) (Reason : Type 0) (answer : Answered) → length t ≤ 48 → 64 ≤ room
    → IsNothingOnlyIf (IsBeyond room t) answer → IsNothingOnlyIf Reason answer
few_answered t room Reason (answered.Normal n) short wide h = tt
few_answered t room Reason (answered.Refused e) short wide h = tt
few_answered t room Reason answered.Nothing short wide b = absurd (not_beyond t room short wide b)
