use Rattle.std.proofs.Common.{◌≡◌, ℕ, zero, suc, List, [], ◌∷◌, ◌++◌, length, take, drop, refl, ap, ◌∙◌}
use Rattle.iloc_shortvec.specs.Kept.{items_of, with_list}
use Rattle.iloc_shortvec.specs.ShortList.{overwritten}
use Rattle.iloc_shortvec.specs.declared.kept.Kept.{Kept}
use Rattle.iloc_shortvec.specs.declared.kept.Kept.TheVariants.{Empty, Inline, Heap}
use Rattle.iloc_shortvec.proofs.short_words.ShortWords.as_mut_slice.Goals as goal

-- a write of the first items, seen in all cells and as a list
first_written : {T : Type 0} (n : ℕ) (xs ws : List T) →
    take n (overwritten xs ws) ≡ overwritten (take n xs) ws
first_written zero xs ws = refl
first_written (suc n) [] [] = refl
first_written (suc n) [] (w ∷ ws) = refl
first_written (suc n) (x ∷ xs) [] = ap (λ ys. x ∷ ys) (first_written n xs [])
first_written (suc n) (x ∷ xs) (w ∷ ws) = ap (λ ys. w ∷ ys) (first_written n xs ws)

-- a write of all items, where they are kept and as a list
items_of-with_list : {T : Type 0} (kept : Kept T) (ws : List T) →
    items_of (with_list kept ws) ≡ overwritten (items_of kept) ws
items_of-with_list (Empty none) ws = refl
items_of-with_list (Inline count cells) ws = first_written count cells ws
items_of-with_list (Heap items) ws = ap (λ n. take n (ws ++ drop (length ws) items.items)) (items.ok.0)

pub returns : goal.returns
returns g c = (
  (refl, λ w. items_of-with_list c.self.inside.kept w ∙ ap (λ xs. overwritten xs w) c.self.view_is),
  record { writes_back = tt; value = c.as_mut_slice.ensures.value ∙ c.self.view_is },
)
