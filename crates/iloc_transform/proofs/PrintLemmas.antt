-- The printed texts, by the pieces that are written.
use Rattle.std.proofs.Common.{◌≡◌, ℕ, suc, Bool, true, false, not, ◌==◌, List, [], ◌∷◌, ◌++◌, length, codes, refl, ap, ◌∙◌, arith}
use Rattle.std.specs.List.{flat_map}
use Rattle.std.proofs.lemmas.Bool.Decides.{nat_tests}
use Rattle.iloc_writeable.proofs.PiecesLemmas.{flat_map_words}
use Rattle.iloc_spec_grammar.specs.Syntax.{Text, join, Fields, fields_pieces}
use Rattle.iloc_spec_grammar.specs.Values.{spelled_value, spelled_fields, field_value_text}
use Rattle.iloc_writeable.specs.Pieces.{is_there}

-- a value that has subtags
pub spelled_some : (ws vs : List Text) → vs ≡ ws → (length vs == 0) ≡ false →
    flat_map (λ w. w ∷ []) vs ≡ spelled_value ws
spelled_some ws vs e n = flat_map_words vs ∙ by vs n ∙ ap spelled_value e
  where
    by : (vs : List Text) → (length vs == 0) ≡ false → vs ≡ spelled_value vs
    by [] n = cc
    by (v ∷ vs) n = refl

-- and one that has none
pub value_text_none : (ws : List Text) → (length ws == 0) ≡ true → codes "true" ≡ field_value_text ws
unfolding field_value_text join
value_text_none [] e = refl
value_text_none (w ∷ ws) e = absurd (some (length ws) e)
  where
    some : (n : ℕ) → (suc n == 0) ≡ true → ⊥
    some n h = grind (arith, nat_tests)

-- fields, pair by pair

pub pairs_pieces : (fs : Fields) →
    flat_map (λ (p : Text × List Text). (p.0 ∷ []) ++ spelled_value p.1) fs
    ≡ fields_pieces (spelled_fields fs)
pairs_pieces [] = refl
pairs_pieces (f ∷ fs) = ap (λ l. ((f.0 ∷ []) ++ spelled_value f.1) ++ l) (pairs_pieces fs)

pub there_are_pieces : (fs : Fields) (b : Bool) → b ≡ (length fs == 0) →
    not b ≡ is_there (fields_pieces (spelled_fields fs))
there_are_pieces [] b e = rw e refl
there_are_pieces (f ∷ fs) b e = ap not (e ∙ false_there (length fs))
  where
    false_there : (n : ℕ) → (suc n == 0) ≡ false
    false_there n = grind (arith, nat_tests)
