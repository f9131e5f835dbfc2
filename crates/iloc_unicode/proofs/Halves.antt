-- A key looked for in one half of ascending pairs.
use Rattle.std.proofs.Common.{◌≡◌, ◌∙◌, ◌<◌, ℕ, zero, suc, Bool, true, false, cond, List, ◌∷◌, [], length, take, drop, refl, sym, ap, ap₂, Some, None, get_or, arith}
use Rattle.std.specs.declared.cmp.Ordering.{Ordering}
use Rattle.std.specs.declared.cmp.Ordering.TheVariants.{Less, Equal, Greater}
use Rattle.std.specs.FinMap.{find, is_sorted}
use Rattle.std.specs.FinMap.Entries.{below_all}
use Rattle.std.specs.Ordering.{is_eq, is_lt}
use Rattle.std.proofs.lemmas.Bool.{and_parts}
use Rattle.iloc_spec_grammar.specs.Syntax.{Text, Fields, word_cmp}
use Rattle.iloc_spec_grammar.proofs.MapLaws.{less, same_words, word_cmp_total}

-- a key below all others is none of them
none_above : (k x : Text) (es : Fields) → word_cmp k x ≡ Less → below_all word_cmp x es ≡ true →
    find word_cmp k es ≡ None
none_above k x [] l b = refl
none_above k x (e ∷ es) l b = let parts = and_parts _ _ b in
    ap₂ (λ r f. cond (is_eq r) (Some e.1) f) (word_cmp_total.trans k x e.0 l (less _ parts.0))
    (none_above k x es l parts.1)

key_above : (x : Text) (es : Fields) (n : ℕ) (d : Text × List Text) → below_all word_cmp x es ≡ true →
    n < length es → word_cmp x (get_or es n d).0 ≡ Less
key_above x [] n d b l = absurd (omega arith)
key_above x (e ∷ es) zero d b l = less _ (and_parts _ _ b).0
key_above x (e ∷ es) (suc n) d b l = key_above x es n d (and_parts _ _ b).1 (omega arith)

not_equal : (o : Ordering) → (o ≡ Equal → ⊥) → is_eq o ≡ false
not_equal Less h = refl
not_equal Equal h = absurd (h refl)
not_equal Greater h = refl

lower : (k : Text) (es : Fields) (n : ℕ) (d : Text × List Text) → is_sorted word_cmp es ≡ true →
    n < length es →
    word_cmp k (get_or es n d).0 ≡ Less → find word_cmp k (take n es) ≡ find word_cmp k es
lower k [] n d s l lt = absurd (omega arith)
lower k (e ∷ es) zero d s l lt =
    sym (ap₂ (λ r f. cond (is_eq r) (Some e.1) f) lt (none_above k e.0 es lt (and_parts _ _ s).0))
lower k (e ∷ es) (suc n) d s l lt =
    ap (λ f. cond (is_eq (word_cmp k e.0)) (Some e.1) f) (lower k es n d (and_parts _ _ s).1 (omega arith) lt)

upper : (k : Text) (es : Fields) (n : ℕ) (d : Text × List Text) → is_sorted word_cmp es ≡ true →
    n < length es →
    (word_cmp k (get_or es n d).0 ≡ Less → ⊥) → find word_cmp k (drop n es) ≡ find word_cmp k es
upper k [] n d s l ge = absurd (omega arith)
upper k (e ∷ es) zero d s l ge = refl
upper k (e ∷ es) (suc n) d s l ge =
    let parts = and_parts _ _ s in
    let above : word_cmp e.0 (get_or es n d).0 ≡ Less = key_above e.0 es n d parts.0 (omega arith) in
    let other : is_eq (word_cmp k e.0) ≡ false = not_equal (word_cmp k e.0)
    (λ h. ge (ap (λ x. word_cmp x (get_or es n d).0) (same_words k e.0 h) ∙ above)) in
    upper k es n d parts.1 (omega arith) ge ∙ ap (λ b. cond b (Some e.1) (find word_cmp k es)) (sym other)

-- the half before a pair with a key above, or that from a pair on with a key not above
pub in_lower : (k : Text) (es : Fields) (n : ℕ) (d : Text × List Text) (o : Ordering) (b : Bool) →
    is_sorted word_cmp es ≡ true → n < length es → o ≡ word_cmp k (get_or es n d).0 → b ≡ is_lt o → b ≡ true →
    find word_cmp k (take n es) ≡ find word_cmp k es
in_lower k es n d o b s l h t is = lower k es n d s l (sym h ∙ less o (sym t ∙ is))

not_less : (o : Ordering) (b : Bool) → b ≡ is_lt o → b ≡ false → o ≡ Less → ⊥
not_less Less b t is e = let both : true ≡ false = sym t ∙ is in cc
not_less Equal b t is e = cc
not_less Greater b t is e = cc

pub in_upper : (k : Text) (es : Fields) (n : ℕ) (d : Text × List Text) (o : Ordering) (b : Bool) →
    is_sorted word_cmp es ≡ true → n < length es → o ≡ word_cmp k (get_or es n d).0 → b ≡ is_lt o →
    b ≡ false →
    find word_cmp k (drop n es) ≡ find word_cmp k es
in_upper k es n d o b s l h t is = upper k es n d s l (λ e. not_less o b t is (h ∙ e))
