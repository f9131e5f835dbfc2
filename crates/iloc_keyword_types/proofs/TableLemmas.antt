-- The first variant with a word stands where the word does.
use Rattle.std.proofs.Common.{◌≡◌, ℕ, Bool, true, false, cond, List, [], ◌∷◌, map, refl, ap, ◌∙◌, Option, Some, option_map, nat_eq, find}
use Rattle.std.specs.FinMap as table
use Rattle.std.specs.Cmp.Lexicographic.{pointwise, texts_ties}
use Rattle.iloc_spec_grammar.specs.Syntax.{Text, word_cmp, is_same}

-- two tests that agree find the same
pub find_same : {X : Type 0} (p q : X → Bool) → ((x : X) → p x ≡ q x) → (xs : List X) → find p xs ≡ find q xs
find_same p q e [] = refl
find_same p q e (x ∷ xs) = λ i. cond (e x i) (Some x) (find_same p q e xs i)

module _ {X : Type 0} (word : X → Text) (place : X → ℕ) where
  pub first_is : (w : Text) (xs : List X) →
      option_map place (find (λ x. pointwise nat_eq w (word x)) xs)
      ≡ table.find word_cmp w (map (λ x. (word x, place x)) xs)
  first_is w [] = refl
  first_is w (x ∷ xs) = rw (texts_ties w (word x)) ((elim (is_same w (word x))
      as (λ b. option_map place (cond b (Some x) (find (λ x. pointwise nat_eq w (word x)) xs))
      ≡ cond b (Some (place x)) (table.find word_cmp w (map (λ x. (word x, place x)) xs)))
      [ true ↦ refl | false ↦ first_is w xs ]))

  pub first_by_word : (w : Text) (xs : List X) (r : Option X) (ws : List (Text × ℕ)) →
      r ≡ find (λ x. pointwise nat_eq w (word x)) xs → map (λ x. (word x, place x)) xs ≡ ws →
      option_map place r ≡ table.find word_cmp w ws
  first_by_word w xs r ws e h = rw e (first_is w xs ∙ ap (table.find word_cmp w) h)
