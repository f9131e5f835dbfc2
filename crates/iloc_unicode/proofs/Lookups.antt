-- A key looked for among pairs, by the test of equal texts.
use Rattle.std.proofs.Common.{◌≡◌, ◌∙◌, ◌+◌, ◌<◌, ◌≤◌, ℕ, suc, Bool, true, false, not, cond, List, ◌∷◌, [], length, drop, get_or, refl, sym, ap, Some, None, nat_eq, add-one, drop-cons, arith}
use Rattle.std.specs.FinMap.{find}
use Rattle.std.specs.Cmp.Lexicographic.{texts_ties}
use Rattle.iloc_spec_grammar.specs.Syntax.{Text, Fields, word_cmp}
use lib.Pointwise.{pointwise}

by_first : (k : Text) (e : Text × List Text) (es : Fields) (b t : Bool) → b ≡ pointwise nat_eq k e.0 → b ≡ t →
    find word_cmp k (e ∷ es) ≡ cond t (Some e.1) (find word_cmp k es)
by_first k e es b t h is = ap (λ t. cond t (Some e.1) (find word_cmp k es)) (sym (h ∙ texts_ties k e.0) ∙ is)

-- the only pair has the key, or no pair has
pub of_only : (k : Text) (es ms : Fields) (d f : Text × List Text) (b t : Bool) → es ≡ ms → 1 ≤ length es →
    length es < 2 → b ≡ pointwise nat_eq k (get_or es 0 d).0 → b ≡ t →
    cond t (Some (get_or es 0 f).1) None ≡ find word_cmp k ms
of_only k [] ms d f b t same some few h is = absurd (omega arith)
of_only k (e ∷ []) ms d f b t same some few h is =
    sym (by_first k e [] b t h is) ∙ ap (find word_cmp k) same
of_only k (e ∷ x ∷ es) ms d f b t same some few h is = absurd (omega arith)

not_so : (b r : Bool) → r ≡ not b → r ≡ true → b ≡ false
not_so true r h is = cc
not_so false r h is = refl

-- the only pair has another key
pub of_other : (k : Text) (es ms : Fields) (d : Text × List Text) (r : Bool) → es ≡ ms → 1 ≤ length es →
    length es < 2 → r ≡ not (pointwise nat_eq k (get_or es 0 d).0) → r ≡ true → None ≡ find word_cmp k ms
of_other k es ms d r same some few h is =
    of_only k es ms d d _ false same some few refl (not_so (pointwise nat_eq k (get_or es 0 d).0) r h is)

-- neither of two pairs has the key
pub of_others : (k : Text) (es ms : Fields) (d f : Text × List Text) (r t : Bool) → es ≡ ms →
    2 ≤ length es → length es < 3 → r ≡ not (pointwise nat_eq k (get_or es 0 d).0) → r ≡ true →
    t ≡ not (pointwise nat_eq k (get_or es 1 f).0) → t ≡ true → find word_cmp k ms ≡ None
of_others k [] ms d f r t same some few h is g it = absurd (omega arith)
of_others k (e ∷ []) ms d f r t same some few h is g it = absurd (omega arith)
of_others k (e ∷ x ∷ []) ms d f r t same some few h is g it =
    ap (find word_cmp k) (sym same)
    ∙ (by_first k e (x ∷ []) _ false refl (not_so (pointwise nat_eq k e.0) r h is)
    ∙ by_first k x [] _ false refl (not_so (pointwise nat_eq k x.0) t g it))
of_others k (e ∷ x ∷ y ∷ es) ms d f r t same some few h is g it = absurd (omega arith)

-- the pair at a place has the key, or those behind it are asked
pub from_place : (k : Text) (es : Fields) (i : ℕ) (e : Text × List Text) (b t : Bool) → i < length es →
    e ≡ get_or es i e → b ≡ pointwise nat_eq k e.0 → b ≡ t →
    cond t (Some e.1) (find word_cmp k (drop (i + 1) es)) ≡ find word_cmp k (drop i es)
from_place k es i e b t l at h is =
    ap (λ j. cond t (Some e.1) (find word_cmp k (drop j es))) (add-one i)
    ∙ (sym (by_first k e (drop (suc i) es) b t h is)
    ∙ (ap (λ d. find word_cmp k (d ∷ drop (suc i) es)) at
    ∙ ap (find word_cmp k) (sym (drop-cons es i e l))))
