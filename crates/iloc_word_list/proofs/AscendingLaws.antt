-- Whether a list ascends, item by item.
use Rattle.std.proofs.Common.{◌≡◌, ℕ, ◌+◌, ◌<◌, Bool, not, ◌&&◌, List, ◌∷◌, length, get_or, drop, is_ge, refl, sym, ap, ◌∙◌}
use Rattle.std.specs.Ordering.{is_lt}
use Rattle.std.specs.declared.cmp.Ordering.{Ordering}
use Rattle.std.specs.declared.cmp.Ordering.TheVariants.{Less, Equal, Greater}
use Rattle.std.proofs.lemmas.List.{drop_more}
use Rattle.iloc_word_list.specs.Ascending.{ascends}

not_ge : (o : Ordering) → is_lt o ≡ not (is_ge o)
not_ge Less = refl
not_ge Equal = refl
not_ge Greater = refl

-- the next item, and whether the last one is above it
pub ascends_next : {X : Type 0} (cmp : X → X → Ordering) (x : X) (ys : List X) (i : ℕ) (y : X) (b : Bool) →
    i < length ys → y ≡ get_or ys i y → is_ge (cmp x y) ≡ b →
    ascends cmp (x ∷ drop i ys) ≡ (not b && ascends cmp (y ∷ drop (i + 1) ys))
ascends_next cmp x ys i y b l is h =
    ap (λ rest. ascends cmp (x ∷ rest)) (drop_more ys i y l ∙ ap (λ z. z ∷ drop (i + 1) ys) (sym is))
    ∙ ap (λ t. t && ascends cmp (y ∷ drop (i + 1) ys)) (not_ge (cmp x y) ∙ ap not h)
