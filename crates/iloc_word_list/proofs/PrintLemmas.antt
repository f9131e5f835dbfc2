-- Printed values.
use Rattle.std.proofs.Common.{◌≡◌, ℕ, ap, ap₂, sym, ◌∙◌, Bool, false, IsTrue, ◌↔◌, List, [], ◌∷◌, ◌++◌, length, take, drop, nat_eq, eqb, refl, arith}
use borrow.Author.Tests.{eqb-true}
use Rattle.std.proofs.Math.Seq.{drop-append_seam, take-append_seam}
use Rattle.std.proofs.lemmas.List.{take-append-drop}
use Rattle.std.specs.List.{IsSplitAt}
use Rattle.std.specs.Cmp.Lexicographic.{pointwise}
use Rattle.iloc_word_list.specs.EqualityLaws.{word_exact}
use Rattle.iloc_spec_grammar.specs.Syntax.{Text, join, dashes}
use Rattle.iloc_spec_grammar.proofs.PartTexts.{join-dashes}

-- what follows a text is what the rest of the pieces make
follows : (w rest text : Text) (ws : List Text) → text ≡ w ++ rest →
    (dashes ws ≡ rest) ↔ (w ++ dashes ws ≡ text)
follows w rest text ws e = (
  λ h. ap (λ t. w ++ t) h ∙ sym e,
  λ h. sym (drop-append_seam w (dashes ws)) ∙ ap (λ t. drop (length w) t) (h ∙ e) ∙ drop-append_seam w rest,
)

pub dashed_on : (w rest after : Text) (ws : List Text) → after ≡ w ++ rest
    → (dashes ws ≡ rest) ↔ (dashes (w ∷ ws) ≡ 45 ∷ after)
dashed_on w rest after ws e =
    let by = follows w rest after ws e in
    (λ h. ap (λ t. 45 ∷ t) (by.0 h), λ h. by.1 (ap (λ t. drop 1 t) h))

pub joined_on : (w rest text : Text) (ws : List Text) → text ≡ w ++ rest
    → (dashes ws ≡ rest) ↔ (join (w ∷ ws) ≡ text)
joined_on w rest text ws e =
    let by = follows w rest text ws e in
    (λ h. join-dashes w ws ∙ by.0 h, λ h. by.1 (sym (join-dashes w ws) ∙ h))

no_text : (b : ℕ) (text : Text) → [] ≡ b ∷ text → ⊥
no_text b text h = cc

pub joined_none : (ws : List Text) (text : Text) (b : Bool) → length ws ≡ 0 → b ≡ eqb (length text) 0
    → IsTrue b ↔ (join ws ≡ text)
unfolding join
joined_none [] [] b none e = (λ h. refl, λ h. e)
joined_none [] (x ∷ text) b none e =
    (λ h. absurd (omega (arith, eqb-true _ _ (sym e ∙ h))), λ h. absurd (no_text x text h))
joined_none (w ∷ ws) text b none e = absurd (omega arith)

-- a text stands in front of what follows its length exactly where what stands there equals it
module _ (w bytes front back : Text) (n : ℕ) (at : IsSplitAt bytes n front back) where
  pub split_there : front ≡ w → bytes ≡ w ++ back
  split_there e = sym (take-append-drop n bytes) ∙ ap₂ (λ s t. s ++ t) (sym at.1 ∙ e) (sym at.2)

  pub split_not : n ≡ length w → pointwise nat_eq front w ≡ false → (rest : Text) → bytes ≡ w ++ rest → ⊥
  split_not long differs rest e =
      let same : front ≡ w = at.1 ∙ ap₂ (λ k s. take k s) long e ∙ take-append_seam w rest in
      let found = (word_exact front w).1 same in
      cc
