-- The rule of a block, by its singleton.
use Rattle.std.proofs.Common.{◌≡◌, ◌≤◌, ◌↔◌, inl, inr, ℕ, Bool, true, [], ◌∷◌, refl, arith}
use Rattle.std.specs.Char.{is_ascii_alphanumeric, to_ascii_lowercase}
use Rattle.std.proofs.lemmas.Bool.Decides.{nat_tests}
use Rattle.iloc_spec_grammar.specs.Syntax.{LanguageLengths, Block, code_x, code_u, code_t, Unicode, Transform, IsOther, is_other_singleton, lower_singleton, IsPrivate}
use Rattle.iloc_spec_grammar.specs.Tree.{Extension, unicode, transform, other, extension_pieces, IsExtension, IsBlock}
use Rattle.iloc_spec_grammar.specs.Meaning.{normal_unicode, normal_transform, AreBlocks}
use Rattle.iloc_spec_grammar.specs.ByBlocks.{UnicodeMeans, TransformMeans}
use Rattle.iloc_spec_grammar.proofs.Singletons.{no_u, no_t, no_x}
use Rattle.iloc_spec_grammar.proofs.SameMeaning.{good_blocks, blocks_spelled}

module _ (T : LanguageLengths) (b : Block) where
  pub unicode_rule : lower_singleton b ≡ code_u → IsBlock T b ↔ ((u : Unicode) × UnicodeMeans b.1 u)
  unicode_rule e = (
    λ x. elim x [ inl p ↦ absurd (omega arith) | inr q ↦ at q.0 q.1 q.2 ],
    λ m. inr (unicode m.1.written, (e, m.1.grammatical), m.1.spelled),
  )
    where
      at : (f : Extension) → IsExtension T (lower_singleton b) f → b.1 ≡ extension_pieces f →
          (u : Unicode) × UnicodeMeans b.1 u
      at (unicode u) h s =
          (normal_unicode u, record { written = u; grammatical = h.1; spelled = s; means = refl })
      at (transform m) h s = absurd (omega arith)
      at (other ps) h s = absurd (no_u _ e h.0)

  pub transform_rule : lower_singleton b ≡ code_t → IsBlock T b ↔ ((m : Transform) × TransformMeans T b.1 m)
  transform_rule e = (
    λ x. elim x [ inl p ↦ absurd (omega arith) | inr q ↦ at q.0 q.1 q.2 ],
    λ m. inr (transform m.1.written, (e, m.1.grammatical), m.1.spelled),
  )
    where
      at : (f : Extension) → IsExtension T (lower_singleton b) f → b.1 ≡ extension_pieces f →
          (m : Transform) × TransformMeans T b.1 m
      at (unicode u) h s = absurd (omega arith)
      at (transform m) h s =
          (normal_transform m, record { written = m; grammatical = h.1; spelled = s; means = refl })
      at (other ps) h s = absurd (no_t _ e h.0)

  pub private_rule : lower_singleton b ≡ code_x → IsBlock T b ↔ IsPrivate b.1
  private_rule e = grind (arith, no_x)

  pub other_rule : is_other_singleton (lower_singleton b) ≡ true → IsBlock T b ↔ IsOther b.1
  other_rule e = (
    grind (arith, no_x),
    λ h. inr (other b.1, (e, h), refl),
  )
    where
      at : (f : Extension) → IsExtension T (lower_singleton b) f → b.1 ≡ extension_pieces f → IsOther b.1
      at (unicode u) h s = absurd (no_u _ h.0 e)
      at (transform m) h s = absurd (no_t _ h.0 e)
      at (other ps) h s = rw s h.1

-- the rule of a block that stands alone

abbrev pub its_own : {T : ℕ → Bool} {X : Type 0} (b : Block) → is_ascii_alphanumeric b.0 ≡ true →
    IsBlock T b ↔ X → AreBlocks T (b ∷ []) ↔ X
its_own b l rule = (λ a. rule.0 (good_blocks a.1).0.2, λ x. blocks_spelled ((l, refl, rule.1 x), tt))

letter_of : (b : Block) (q : ℕ) → lower_singleton b ≡ q → (97 ≤ q) → (q ≤ 122) →
    is_ascii_alphanumeric b.0 ≡ true
letter_of b q e l m = grind (arith, nat_tests)

other_letter : (c : ℕ) → is_other_singleton (to_ascii_lowercase c) ≡ true → is_ascii_alphanumeric c ≡ true
other_letter c h = grind (arith, nat_tests)

module _ (T : LanguageLengths) (b : Block) where
  pub unicode_alone : lower_singleton b ≡ code_u → AreBlocks T (b ∷ []) ↔ ((u : Unicode) × UnicodeMeans b.1 u)
  unicode_alone e = its_own b (letter_of b code_u e (omega arith) (omega arith)) (unicode_rule T b e)

  pub transform_alone : lower_singleton b ≡ code_t →
      AreBlocks T (b ∷ []) ↔ ((m : Transform) × TransformMeans T b.1 m)
  transform_alone e = its_own b (letter_of b code_t e (omega arith) (omega arith)) (transform_rule T b e)

  pub private_alone : lower_singleton b ≡ code_x → AreBlocks T (b ∷ []) ↔ IsPrivate b.1
  private_alone e = its_own b (letter_of b code_x e (omega arith) (omega arith)) (private_rule T b e)

  pub other_alone : is_other_singleton (lower_singleton b) ≡ true → AreBlocks T (b ∷ []) ↔ IsOther b.1
  other_alone e = its_own b (other_letter b.0 e) (other_rule T b e)
