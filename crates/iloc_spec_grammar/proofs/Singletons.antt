-- Singletons as numbers: which tie, and of which kind each is.
use Rattle.std.proofs.Common.{◌≡◌, ◌≢◌, ℕ, suc, true, false, ◌==◌, ap, arith, List, [], ◌∷◌, map, IfSome}
use Rattle.std.specs.Char.{is_ascii_alphanumeric, to_ascii_lowercase}
use Rattle.std.specs.Cmp.{nat_cmp_total, tied_itself}
use Rattle.std.specs.Ordering.{nat_cmp, eq_by_cmp, is_eq}
use Rattle.std.proofs.lemmas.Bool.{cases_eq, cond_both}
use Rattle.std.proofs.lemmas.Bool.Decides.{nat_tests}
use Rattle.iloc_spec_grammar.specs.Syntax.{code_x, code_u, code_t, is_other_singleton, lower_singleton}
use Rattle.std.specs.List.{AllByRecursion}
use Rattle.std.specs.FinMap.{find}

pub tied : (q k : ℕ) → eq_by_cmp nat_cmp q k ≡ true → k ≡ q
tied q k h = grind (arith, nat_tests)

pub untied : (q k : ℕ) → k ≢ q → eq_by_cmp nat_cmp q k ≡ false
untied q k h = grind (arith, nat_tests)

pub tied_back : (a b : ℕ) → eq_by_cmp nat_cmp a b ≡ false → eq_by_cmp nat_cmp b a ≡ false
tied_back a b h = grind (arith, nat_tests)

pub self_tied : (q : ℕ) → eq_by_cmp nat_cmp q q ≡ true
self_tied q = ap is_eq (tied_itself nat_cmp_total q)

-- what holds of each item at its singleton holds of the one that is found
pub find_holds : {X : Type 0} (P : ℕ → X → Type 0) (q : ℕ) (es : List (ℕ × X)) →
    AllByRecursion (λ e. P (lower_singleton e) e.1) es →
    IfSome (find nat_cmp q (map (λ e. (lower_singleton e, e.1)) es)) (P q)
find_holds P q [] h = tt
find_holds P q (e ∷ es) h = grind (arith, cond_both, tied, find_holds P q es h.1)

-- a piece of two bytes and more has more than one
pub two_more : (n : ℕ) → (suc (suc n) == 1) ≡ false
two_more n = grind (arith, nat_tests)

-- the kinds are apart

pub no_u : (c : ℕ) → c ≡ code_u → is_other_singleton c ≡ true → ⊥
no_u c e h = grind (arith, nat_tests)

pub no_t : (c : ℕ) → c ≡ code_t → is_other_singleton c ≡ true → ⊥
no_t c e h = grind (arith, nat_tests)

pub no_x : (c : ℕ) → c ≡ code_x → is_other_singleton c ≡ true → ⊥
no_x c e h = grind (arith, nat_tests)

-- a singleton in lower case: that of `u`, `t` or `x`, or of another part
pub data IsKind (c : ℕ) : Type 0 where
  of_u : c ≡ code_u → IsKind c
  of_t : c ≡ code_t → IsKind c
  of_x : c ≡ code_x → IsKind c
  another : is_other_singleton c ≡ true → IsKind c

pub kind_of : (c : ℕ) → is_ascii_alphanumeric c ≡ true → IsKind c
kind_of c h = grind (arith, cases_eq, nat_tests)

-- a letter or digit is one in lower case too
pub lower_letter : (c : ℕ) → is_ascii_alphanumeric c ≡ true →
    is_ascii_alphanumeric (to_ascii_lowercase c) ≡ true
lower_letter c h = grind (arith, nat_tests)
