use Rattle.std.proofs.Common.{◌≡◌, ◌∙◌, ◌&&◌, Bool, true, false, ℕ, zero, suc, List, [], ◌∷◌, ◌<◌, length, drop, get_or, refl, sym, not, arith}
use Rattle.std.specs.Cmp.Lexicographic.{pointwise}
use Rattle.iloc_litemap.proofs.compared.are_equal.Goals as goal
use Rattle.iloc_litemap.proofs.compared.are_equal.Goals.{then-ne-via-then-ne, then-ne-via-else-ne+then-ne-2}

module _ {P : Type 0} (E : P → P → Bool) where
  step : (xs ys : List P) (i : ℕ) (d e : P) → i < length xs → i < length ys →
      pointwise E (drop i xs) (drop i ys)
      ≡ (E (get_or xs i d) (get_or ys i e) && pointwise E (drop (suc i) xs) (drop (suc i) ys))
  step [] ys i d e l m = absurd (omega arith)
  step (x ∷ xs) [] i d e l m = absurd (omega arith)
  step (x ∷ xs) (y ∷ ys) zero d e l m = refl
  step (x ∷ xs) (y ∷ ys) (suc i) d e l m = step xs ys i d e (omega arith) (omega arith)

unequal_first : (a b r : Bool) → not a ≡ true → false ≡ ((a && b) && r)
unequal_first true b r h = cc
unequal_first false b r h = refl

unequal_second : (a b r : Bool) → not b ≡ true → false ≡ ((a && b) && r)
unequal_second true true r h = cc
unequal_second true false r h = refl
unequal_second false b r h = refl

pub returns-then-ne : goal.returns-then-ne
returns-then-ne g c =
    let pairs = c.args.pairs.now in
    let others = c.args.others.now in
    let inside : c.loop-i.i < length pairs = c.loop-i-test.true in
    let inside_too : c.loop-i.i < length others = omega (arith, c.loop-i.invariant.long) in
    let whole = c.loop-i.invariant.rest in
    elim c.then-ne.branch [
      | then-ne-via-then-ne w ↦
          unequal_first _ _ _ (sym c.ne.ensures ∙ w.if-ne.true)
          ∙ (sym (step _ pairs others c.loop-i.i _ _ inside inside_too) ∙ whole)
      | then-ne-via-else-ne+then-ne-2 w ↦
          unequal_second _ _ _ (sym w.ne-else-ne.ensures ∙ w.if-ne-2.true)
          ∙ (sym (step _ pairs others c.loop-i.i _ _ inside inside_too) ∙ whole)
    ]
