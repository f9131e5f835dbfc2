-- The pieces that are written.
use Rattle.std.proofs.Common.{◌≡◌, ℕ, Bool, true, false, not, cond, List, [], ◌∷◌, length, nat_lt, ◌==◌, IsTrue, ◌↔◌, refl, sym, ap, ◌∙◌, arith}
use Rattle.std.specs.List.{flat_map}
use Rattle.std.proofs.lemmas.Bool.Decides.{nat_tests}
use Rattle.iloc_writeable.specs.Pieces.{hyphened, is_there}
use Rattle.iloc_writeable.proofs.PiecesLemmas.{flat_map_words}
use Rattle.iloc_spec_grammar.specs.Values.{private_spelling, other_spelling}
use Rattle.iloc_spec_grammar.proofs.PartTexts.{private_spelling_is, private_spelling_none, other_spelling_is}
use Rattle.iloc_spec_grammar.specs.Syntax.{code_x, Text}

-- where there is no piece, nothing is written
nothing_written : (first : Bool) (ps : List Text) → ps ≡ [] → [] ≡ hyphened first ps
nothing_written first ps e = none first ∙ ap (hyphened first) (sym e)
  where
    none : (first : Bool) → [] ≡ hyphened first []
    none true = refl
    none false = refl

-- a private list

is_not : (b : Bool) → (b ≡ true → ⊥) → not b ≡ true
is_not true n = absurd (n refl)
is_not false n = refl

pub private_there : (ws : List Text) (b : Bool) → (IsTrue b ↔ (ws ≡ [])) →
    not b ≡ is_there (private_spelling ws)
private_there [] b h = ap not (h.1 refl) ∙ ap is_there (sym private_spelling_none)
private_there (w ∷ ws) b h = is_not b (λ e. no_word (h.0 e)) ∙ ap is_there (sym (private_spelling_is w ws))
  where
    no_word : w ∷ ws ≡ [] → ⊥
    no_word e = cc

pub private_none : (first : Bool) (ws : List Text) → ws ≡ [] → [] ≡ hyphened first (private_spelling ws)
private_none first ws e =
    nothing_written first (private_spelling ws) (ap private_spelling e ∙ private_spelling_none)

pub private_some : (ws vs : List Text) → vs ≡ ws → (ws ≡ [] → ⊥) →
    (code_x ∷ []) ∷ flat_map (λ w. w ∷ []) vs ≡ private_spelling ws
private_some [] vs e n = absurd (n refl)
private_some (w ∷ ws) vs e n =
    ap (λ l. (code_x ∷ []) ∷ l) (flat_map_words vs ∙ e) ∙ sym (private_spelling_is w ws)

-- another extension

other_test : (n : ℕ) → nat_lt 0 n ≡ not (n == 0)
other_test n = grind (arith, nat_tests)

spelling_by : (o : ℕ × List Text) → other_spelling o ≡ cond (not (length o.1 == 0)) ((o.0 ∷ []) ∷ o.1) []
spelling_by o = other_spelling_is o ∙ ap (λ b. cond b ((o.0 ∷ []) ∷ o.1) []) (other_test (length o.1))

pub there_by : (b : Bool) (p : Text) (ps : List Text) → b ≡ is_there (cond b (p ∷ ps) [])
there_by true p ps = refl
there_by false p ps = refl

pub other_there : (o : ℕ × List Text) (vs : List Text) → vs ≡ o.1 →
    not (length vs == 0) ≡ is_there (other_spelling o)
other_there o vs e = ap (λ (l : List Text). not (length l == 0)) e
    ∙ there_by (not (length o.1 == 0)) (o.0 ∷ []) o.1 ∙ ap is_there (sym (spelling_by o))

pub other_none : (first : Bool) (o : ℕ × List Text) (vs : List Text) → vs ≡ o.1 →
    (length vs == 0) ≡ true → [] ≡ hyphened first (other_spelling o)
other_none first o vs e h = nothing_written first (other_spelling o) (spelling_by o
    ∙ ap (λ b. cond (not b) ((o.0 ∷ []) ∷ o.1) []) (ap (λ (l : List Text). length l == 0) (sym e) ∙ h))

pub other_some : (o : ℕ × List Text) (c : Text) (vs : List Text) → c ≡ o.0 ∷ [] → vs ≡ o.1 →
    (length vs == 0) ≡ false → c ∷ flat_map (λ w. w ∷ []) vs ≡ other_spelling o
other_some o c vs d e h =
    (λ i. d i ∷ (flat_map_words vs ∙ e) i)
    ∙ sym (spelling_by o
    ∙ ap (λ b. cond (not b) ((o.0 ∷ []) ∷ o.1) []) (ap (λ (l : List Text). length l == 0) (sym e) ∙ h))
