-- Private words that are taken one at a time.
use Rattle.iloc_spec_grammar.specs.Reading.{passing}
use Rattle.std.proofs.Common.{◌≡◌, ◌↔◌, suc, ◌+◌, ◌<◌, ◌≤◌, false, cond, List, [], ◌∷◌, ◌++◌, length, map, refl, sym, ap, ◌∙◌, subst, arith, append_assoc, append-nil, true≢false}
use Rattle.std.specs.List.{AllByRecursion}
use Rattle.std.proofs.lemmas.List.{length-map, length_push}
use Rattle.iloc_spec_grammar.specs.Syntax.{Text, PrivateSubtag, is_word, IsWord, lower}
use Rattle.iloc_spec_grammar.specs.Meaning as faults
use Rattle.iloc_spec_parts.proofs.KeptLaws.{passing_short}
use Rattle.iloc_spec_parts.specs.Fronts.{PrivateRead, PrivateFault, not_private}

abbrev AllWords : List Text → Type 0
AllWords ps = AllByRecursion (IsWord PrivateSubtag) ps

-- the pieces before are words just where those that are left are, and mean these words and what is left
pub record TakingWords (before now ws : List Text) : Type 0 where
  pub words : AllWords before ↔ AllWords now
  pub means : ws ++ map lower now ≡ map lower before
  pub front : length ws + length (passing (is_word PrivateSubtag) now)
      ≡ length (passing (is_word PrivateSubtag) before)

module _ (before now ws : List Text) (t : TakingWords before now ws) where
  module _ (p : Text) (more : List Text) (e : now ≡ p ∷ more) where
    word_first : IsWord PrivateSubtag p →
        length (passing (is_word PrivateSubtag) now) ≡ suc (length (passing (is_word PrivateSubtag) more))
    word_first w = ap (λ l. length (passing (is_word PrivateSubtag) l)) e
        ∙ ap (λ b. length (cond b (p ∷ passing (is_word PrivateSubtag) more) [])) w

    pub takes_word : (vs : List Text) → IsWord PrivateSubtag p → vs ≡ ws ++ lower p ∷ [] →
        TakingWords before more vs
    takes_word vs w v = record {
      words = (λ h. (subst AllWords e (t.words.0 h)).1, λ h. t.words.1 (subst AllWords (sym e) (w, h)));
      means = ap (λ l. l ++ map lower more) v ∙ append_assoc ws (lower p ∷ []) (map lower more)
          ∙ ap (λ l. ws ++ map lower l) (sym e) ∙ t.means;
      front = omega (arith, ap length v, length_push ws (lower p), word_first w, t.front);
    }

    -- a piece that is no word
    pub refuses_piece : is_word PrivateSubtag p ≡ false → PrivateFault before faults.InvalidExtension
    refuses_piece w = not_private (λ i. true≢false (sym (subst AllWords e (t.words.0 i.words)).0 ∙ w))

    -- one word more is at most as many as there are pieces
    pub word_room : IsWord PrivateSubtag p → length ws + 1 ≤ length before
    word_room w = omega (arith, word_first w, t.front, passing_short (is_word PrivateSubtag) before)

    -- a fifth word
    pub wants_memory : IsWord PrivateSubtag p → (length ws < 4 → ⊥) →
        4 < length (passing (is_word PrivateSubtag) before)
    wants_memory w n = omega (arith, word_first w, t.front, n)

  -- at the end
  module _ (e : now ≡ []) where
    all_taken : ws ≡ map lower before
    all_taken = sym (append-nil ws) ∙ ap (λ l. ws ++ map lower l) (sym e) ∙ t.means

    some : (ps : List Text) → (ps ≡ [] → ⊥) → 0 < length ps
    some [] n = absurd (n refl)
    some (p ∷ ps) n = omega arith

    pub takes_none : ws ≡ [] → PrivateFault before faults.InvalidExtension
    takes_none n = not_private
        (λ i. let z : 0 ≡ length before = ap length (sym n ∙ all_taken) ∙ length-map before lower in
        absurd (omega (arith, z, i.nonempty)))
