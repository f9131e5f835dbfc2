-- What a comparison of bytes says.
use Rattle.std.proofs.Common.{◌≡◌, ◌↔◌, ℕ, List, Bool, IsTrue, sym, ◌∙◌, ap, subst}
use Rattle.std.specs.Bool.{Decides}
use Rattle.std.specs.Ordering.{nat_cmp, is_eq}
use Rattle.std.specs.declared.cmp.Ordering.{Ordering}
use Rattle.std.specs.Cmp.Lexicographic.{slice_cmp}
use Rattle.std.proofs.lemmas.Map.Text.{is_eq-slice_cmp}
use Rattle.std.proofs.lemmas.Slice.Eq.{bytes_eq-Decides}

tested : (xs ys : List ℕ) → Decides (is_eq (slice_cmp nat_cmp xs ys)) (xs ≡ ys)
tested xs ys = subst (λ b. Decides b (xs ≡ ys)) (sym (is_eq-slice_cmp xs ys)) (bytes_eq-Decides xs ys)

-- what compares as equal is the same, and the other way round
pub same_text : (xs ys : List ℕ) (r : Ordering) (b : Bool) → r ≡ slice_cmp nat_cmp xs ys → b ≡ is_eq r →
    IsTrue b ↔ (xs ≡ ys)
same_text xs ys r b h e =
    let is : b ≡ is_eq (slice_cmp nat_cmp xs ys) = e ∙ ap is_eq h in
    subst (λ c. IsTrue c ↔ (xs ≡ ys)) (sym is) (tested xs ys)
