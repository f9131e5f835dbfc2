-- What a take of a word tells.
use Rattle.std.proofs.Common.{◌≡◌, Bool, true, false, cond, List, [], ◌∷◌, refl, Some, None, option_map}
use Rattle.iloc_spec_grammar.specs.Syntax.{Text, Kind, is_word, IsWord, normal}
use Rattle.iloc_spec_grammar.specs.Reading.{take_first, skip_first, passing, past}

-- a word at the front
pub took : (k : Kind) (ps : List Text) (w : Text) →
    Some w ≡ option_map (normal k) (take_first (is_word k) ps) →
    (p : Text) × IsWord k p × (w ≡ normal k p) × (ps ≡ p ∷ skip_first (is_word k) ps)
took k [] w e = cc
took k (p ∷ ps) w e = by (is_word k p) refl e
  where
    by : (b : Bool) → is_word k p ≡ b → Some w ≡ option_map (normal k) (cond b (Some p) None) →
        (q : Text) × IsWord k q × (w ≡ normal k q) × (p ∷ ps ≡ q ∷ skip_first (is_word k) (p ∷ ps))
    by true h e = (p, h, cc, rw h refl)
    by false h e = cc

pub took_none : (k : Kind) (ps : List Text) → None ≡ option_map (normal k) (take_first (is_word k) ps) →
    (passing (is_word k) ps ≡ []) × (past (is_word k) ps ≡ ps) × (skip_first (is_word k) ps ≡ ps)
took_none k [] e = (refl, refl, refl)
took_none k (p ∷ ps) e = by (is_word k p) refl e
  where
    by : (b : Bool) → is_word k p ≡ b → None ≡ option_map (normal k) (cond b (Some p) None) →
        (passing (is_word k) (p ∷ ps) ≡ []) × (past (is_word k) (p ∷ ps) ≡ p ∷ ps)
        × (skip_first (is_word k) (p ∷ ps) ≡ p ∷ ps)
    by true h e = cc
    by false h e = (rw h refl, rw h refl, rw h refl)
