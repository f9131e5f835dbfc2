-- One step of the reader of blocks: a block that is read, and a block that is refused.
use Rattle.std.proofs.lemmas.Bool.{both_ways}
use Rattle.std.proofs.Common.{◌≡◌, ◌⊎◌, ℕ, true, false, ◌==◌, List, ◌∷◌, map, sym, ap, ◌∙◌, subst, arith, Some}
use Rattle.std.specs.List.{AllByRecursion, list_any}
use Rattle.std.specs.Char.{is_ascii_alphanumeric}
use Rattle.std.specs.Ordering.{nat_cmp, eq_by_cmp}
use Rattle.std.specs.FinMap.{find, put}
use Rattle.std.proofs.lemmas.Bool.Decides.{nat_tests}
use Rattle.iloc_spec_grammar.specs.Syntax.{code_x, code_u, code_t, Text, Unicode, Transform, kept, lower_singleton, is_other_singleton}
use Rattle.iloc_spec_grammar.specs.Meaning.{Extensions, map_of, other_blocks}
use Rattle.iloc_spec_grammar.specs.Tree.{by_singleton}
use Rattle.iloc_spec_grammar.specs.ByBlocks.{Rules, PartIs, BlocksGive}

-- numbers of singletons

tied_itself : (q k : ℕ) → k ≡ q → eq_by_cmp nat_cmp q k ≡ true
tied_itself q k e = grind (arith, nat_tests)

tied_no : (q k c : ℕ) → c ≡ k → (k ≡ q → ⊥) → eq_by_cmp nat_cmp q c ≡ false
tied_no q k c e n = grind (arith, nat_tests)

is_no_other : (c k : ℕ) → c ≡ k → (k ≡ code_u) ⊎ ((k ≡ code_t) ⊎ (k ≡ code_x)) → is_other_singleton c ≡ false
is_no_other c k e h = grind arith

no_other : (c q : ℕ) → is_other_singleton c ≡ true → (q ≡ code_u) ⊎ ((q ≡ code_t) ⊎ (q ≡ code_x)) →
    eq_by_cmp nat_cmp q c ≡ false
no_other c q o h = grind arith

differ : (m n : ℕ) → ((m == n) ≡ false) → m ≡ n → ⊥
differ m n h e = grind (arith, nat_tests)

-- What a new block adds to what was read.
module _ {R : Rules} {ds : List (ℕ × List Text)} {M : Extensions} (b : ℕ × List Text)
    (m : BlocksGive R ds M)
    (l : is_ascii_alphanumeric b.0 ≡ true)
    (n : list_any (eq_by_cmp nat_cmp (lower_singleton b)) (map (λ d. lower_singleton d) ds) ≡ false) where
  present : (q : ℕ) → lower_singleton b ≡ q → find nat_cmp q (by_singleton (b ∷ ds)) ≡ Some b.1
  present q e = grind (arith, tied_itself)

  absent : (q : ℕ) → eq_by_cmp nat_cmp q (lower_singleton b) ≡ false →
      find nat_cmp q (by_singleton (b ∷ ds)) ≡ find nat_cmp q (by_singleton ds)
  absent q e = grind arith

  same_others : is_other_singleton (lower_singleton b) ≡ false →
      other_blocks (b ∷ ds) ≡ other_blocks ds
  same_others e = grind arith

  more_others : is_other_singleton (lower_singleton b) ≡ true →
      other_blocks (b ∷ ds) ≡ (lower_singleton b, b.1) ∷ other_blocks ds
  more_others e = grind arith

  -- the part of another singleton stays; that of this one is given
  part_kept : {X : Type 0} (Rule : List Text → X → Type 0) (empty v : X) (k q : ℕ) →
      lower_singleton b ≡ q → (q == k) ≡ false → PartIs Rule empty (find nat_cmp k (by_singleton ds)) v →
      PartIs Rule empty (find nat_cmp k (by_singleton (b ∷ ds))) v
  part_kept Rule empty v k q e d = grind (arith, absent, tied_no, differ)

  part_given : {X : Type 0} (Rule : List Text → X → Type 0) (empty v : X) (q : ℕ) →
      lower_singleton b ≡ q → Rule b.1 v → PartIs Rule empty (find nat_cmp q (by_singleton (b ∷ ds))) v
  part_given Rule empty v q e h = grind (arith, present)

  part_beside : {X : Type 0} (Rule : List Text → X → Type 0) (empty v : X) (k : ℕ) →
      is_other_singleton (lower_singleton b) ≡ true → (k ≡ code_u) ⊎ ((k ≡ code_t) ⊎ (k ≡ code_x)) →
      PartIs Rule empty (find nat_cmp k (by_singleton ds)) v →
      PartIs Rule empty (find nat_cmp k (by_singleton (b ∷ ds))) v
  part_beside Rule empty v k o h = grind (arith, absent, no_other)

  rules_kept : is_other_singleton (lower_singleton b) ≡ false →
      AllByRecursion (λ b. R.other b.1 (kept b.1)) (other_blocks (b ∷ ds))
  rules_kept e = subst (AllByRecursion (λ b. R.other b.1 (kept b.1))) (sym (same_others e)) m.each_other

  others_kept : is_other_singleton (lower_singleton b) ≡ false →
      M.others ≡ map_of nat_cmp (map (λ b. (b.0, kept b.1)) (other_blocks (b ∷ ds)))
  others_kept e = m.others ∙ ap (λ bs. map_of nat_cmp (map (λ b. (b.0, kept b.1)) bs)) (sym (same_others e))

  pub unicode_added : lower_singleton b ≡ code_u → (v : Unicode) → R.unicode b.1 v →
      BlocksGive R (b ∷ ds) (record M { unicode = v })
  unicode_added e v h =
      grind (arith, both_ways, part_given, part_kept, rules_kept, is_no_other, others_kept)

  pub transform_added : lower_singleton b ≡ code_t → (v : Transform) → R.transform b.1 v →
      BlocksGive R (b ∷ ds) (record M { transform = v })
  transform_added e v h =
      grind (arith, both_ways, part_kept, part_given, rules_kept, is_no_other, others_kept)

  pub private_added : lower_singleton b ≡ code_x → (v : List Text) → R.private b.1 v →
      BlocksGive R (b ∷ ds) (record M { private = v })
  private_added e v h =
      grind (arith, both_ways, part_kept, part_given, rules_kept, is_no_other, others_kept)

  pub other_added : is_other_singleton (lower_singleton b) ≡ true → R.other b.1 (kept b.1) →
      BlocksGive R (b ∷ ds) (record M { others = put nat_cmp (lower_singleton b) (kept b.1) M.others })
  other_added o h = grind (arith, both_ways, part_beside, more_others)
