-- Variants that differ, one more at the end.
use Rattle.std.proofs.Common.{◌≡◌, inl, inr, true, false, List, [], ◌∷◌, ◌++◌, refl, sym, ◌∙◌, true≢false, arith}
use Rattle.std.specs.List.{list_any}
use Rattle.std.specs.Ordering.{eq_by_cmp}
use Rattle.std.proofs.lemmas.Bool.{and_parts, and_left, and_right, and_from, or_cases, or_parts, or_from, or_left, or_right, not-true, not_from_true, not_from_false}
use Rattle.std.proofs.lemmas.List.Folds.{list_any-append}
use Rattle.iloc_spec_grammar.specs.Syntax.{Text, word_cmp, is_same}
use Rattle.iloc_spec_grammar.specs.Computing.{all_different}
use Rattle.iloc_spec_grammar.proofs.Equality.{word_equality}

-- words are the same in both directions
same_back : (v w : Text) → is_same v w ≡ true → is_same w v ≡ true
same_back v w h = (word_equality w v).passes (sym ((word_equality v w).holds h))

other_back : (v w : Text) → is_same v w ≡ false → is_same w v ≡ false
other_back v w h = grind (arith, same_back)

-- a word that stands before is repeated
pub repeat_found : (vs : List Text) (v : Text) (ws : List Text) → list_any (eq_by_cmp word_cmp v) vs ≡ true →
    all_different word_cmp (vs ++ (v ∷ ws)) ≡ false
repeat_found [] v ws h = absurd (true≢false (sym h))
repeat_found (x ∷ vs) v ws h = elim (or_cases _ _ h) [
  | inl e ↦ and_left _ _ (not_from_true _
      (list_any-append (eq_by_cmp word_cmp x) vs (v ∷ ws) ∙ or_right _ _ (or_left _ _ (same_back v x e))))
  | inr e ↦ and_right _ _ (repeat_found vs v ws e)
]

-- a word that does not is not
pub one_more : (vs : List Text) (v : Text) → all_different word_cmp vs ≡ true →
    list_any (eq_by_cmp word_cmp v) vs ≡ false → all_different word_cmp (vs ++ (v ∷ [])) ≡ true
one_more [] v d h = refl
one_more (x ∷ vs) v d h =
    let k = or_parts _ _ h in
    let parts = and_parts _ _ d in
    grind (
      arith,
      and_from,
      not_from_false,
      list_any-append,
      or_from,
      not-true,
      other_back,
      one_more vs v parts.1 k.1,
    )
