-- Entries one after the other, and lines that are cut from a text.
use Rattle.std.proofs.Common.{◌≡◌, ℕ, suc, ◌+◌, List, [], ◌∷◌, ◌++◌, length, refl, sym, ap, ◌∙◌, subst, arith, append_assoc, append-nil, add-zero}
use Rattle.std.specs.List.{AllByRecursion}
use Rattle.iloc_program.specs.Lines.{lines_of, ended, IsOneLine}
use Rattle.iloc_program.proofs.LineCuts.{lines_of-cut}
use Rattle.iloc_program.specs.Numbered.{AreEntries}
use Rattle.iloc_spec_grammar.specs.Syntax.{Text}

module _ (IsEntry : ℕ → Text → Text → Type 0) where
  pub AreEntries-append : (n : ℕ) (xs ys : List Text) (a b : Text) → AreEntries IsEntry n xs a
      → AreEntries IsEntry (n + length xs) ys b → AreEntries IsEntry n (xs ++ ys) (a ++ b)
  AreEntries-append n [] ys a b e f =
      let here : AreEntries IsEntry n ys b = subst (λ (k : ℕ). AreEntries IsEntry k ys b) (add-zero n) f in
      subst (AreEntries IsEntry n ys) (ap (λ (t : Text). t ++ b) (sym e)) here
  AreEntries-append n (x ∷ xs) ys a b (entry, rest, is, others, e) f =
      let same : n + suc (length xs) ≡ (n + 1) + length xs = omega arith in (
        entry,
        rest ++ b,
        is,
        AreEntries-append (n + 1) xs ys rest b others (subst (λ (k : ℕ). AreEntries IsEntry k ys b) same f),
        ap (λ (t : Text). t ++ b) e ∙ append_assoc entry rest b,
      )

  -- one line
  pub AreEntries-one : (n : ℕ) (line entry : Text) → IsEntry n line entry →
      AreEntries IsEntry n (line ∷ []) entry
  AreEntries-one n line entry is = (entry, [], is, refl, sym (append-nil entry))

pub lines_of-ended : (lines : List Text) (rest : Text) → AllByRecursion IsOneLine lines
    → lines_of (ended lines ++ rest) ≡ lines ++ lines_of rest
lines_of-ended [] rest h = refl
lines_of-ended (line ∷ lines) rest h =
    let joined : ((line ++ 10 ∷ []) ++ ended lines) ++ rest ≡ line ++ 10 ∷ (ended lines ++ rest) =
    simp append_assoc in
    rw joined (lines_of-cut line (ended lines ++ rest) h.0
    ∙ ap (λ (t : List Text). line ∷ t) (lines_of-ended lines rest h.1))

pub ended-append : (xs ys : List Text) → ended (xs ++ ys) ≡ ended xs ++ ended ys
ended-append [] ys = refl
ended-append (x ∷ xs) ys =
    ap (λ (t : Text). (x ++ 10 ∷ []) ++ t) (ended-append xs ys)
    ∙ sym (append_assoc (x ++ 10 ∷ []) (ended xs) (ended ys))

pub AllByRecursion-append : (P : Text → Type 0) (xs ys : List Text) → AllByRecursion P xs →
    AllByRecursion P ys → AllByRecursion P (xs ++ ys)
AllByRecursion-append P [] ys h k = k
AllByRecursion-append P (x ∷ xs) ys h k = (h.0, AllByRecursion-append P xs ys h.1 k)
