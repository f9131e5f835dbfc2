-- Where a new singleton is put.
use Rattle.std.proofs.Common.{◌≡◌, ℕ, suc, ◌+◌, ◌<◌, ◌≤◌, true, false, cond, ◌==◌, List, [], ◌∷◌, length, refl, sym, ap, ◌∙◌, arith, true≢false, nat_lt}
use Rattle.std.specs.List.{list_any, insert}
use Rattle.std.specs.Ordering.{nat_cmp}
use Rattle.std.specs.declared.cmp.Ordering.{Ordering}
use Rattle.std.specs.declared.cmp.Ordering.TheVariants.{Less, Equal, Greater}
use Rattle.std.specs.FinMap.{put}
use Rattle.std.specs.FinMap.Entries.{by_order}
use Rattle.std.proofs.lemmas.Bool.{or_parts}
use Rattle.std.proofs.lemmas.Bool.Decides.{nat_tests}
use Rattle.iloc_extensions.specs.Place.{how_many_up_to}
use Rattle.iloc_spec_grammar.specs.Syntax.{Text}

pub place_fits : (c : ℕ) (os : List (ℕ × List Text)) → how_many_up_to c os ≤ length os
place_fits c [] = omega arith
place_fits c (o ∷ os) = grind (arith, place_fits c os)

pub put_at_place : (c : ℕ) (ws : List Text) (os : List (ℕ × List Text)) →
    list_any (λ o. o.0 == c) os ≡ false → insert os (how_many_up_to c os) (c, ws) ≡ put nat_cmp c ws os
put_at_place c ws [] h = refl
put_at_place c ws (o ∷ os) h =
    let parts = or_parts _ _ h in at (nat_cmp c o.0) refl parts.0 (put_at_place c ws os parts.1)
  where
    less : (a b : ℕ) → nat_cmp a b ≡ Less → nat_lt a b ≡ true
    less a b e = grind (arith, nat_tests)

    greater : (a b : ℕ) → nat_cmp a b ≡ Greater → nat_lt a b ≡ false
    greater a b e = grind (arith, nat_tests)

    equal : (a b : ℕ) → nat_cmp a b ≡ Equal → (b == a) ≡ true
    equal a b e = grind (arith, nat_tests)

    at : (r : Ordering) → nat_cmp c o.0 ≡ r → (o.0 == c) ≡ false →
        insert os (how_many_up_to c os) (c, ws) ≡ put nat_cmp c ws os →
        insert (o ∷ os) (cond (nat_lt c o.0) 0 (suc (how_many_up_to c os))) (c, ws)
        ≡ by_order (nat_cmp c o.0) ((c, ws) ∷ o ∷ os) ((o.0, ws) ∷ os) (o ∷ put nat_cmp c ws os)
    at Less e n more = ap (λ b. insert (o ∷ os) (cond b 0 (suc (how_many_up_to c os))) (c, ws)) (less c o.0 e)
        ∙ ap (λ r. by_order r ((c, ws) ∷ o ∷ os) ((o.0, ws) ∷ os) (o ∷ put nat_cmp c ws os)) (sym e)
    at Equal e n more = absurd (true≢false (sym (equal c o.0 e) ∙ n))
    at Greater e n more =
        ap (λ b. insert (o ∷ os) (cond b 0 (suc (how_many_up_to c os))) (c, ws)) (greater c o.0 e)
        ∙ ap (λ l. o ∷ l) more
        ∙ ap (λ r. by_order r ((c, ws) ∷ o ∷ os) ((o.0, ws) ∷ os) (o ∷ put nat_cmp c ws os)) (sym e)

pub place_none : (c : ℕ) → how_many_up_to c [] ≡ 0
place_none c = refl

pub place_hit : (c : ℕ) (o : ℕ × List Text) (os : List (ℕ × List Text)) → c < o.0 →
    how_many_up_to c (o ∷ os) ≡ 0
place_hit c o os h = grind arith

pub place_miss : (c : ℕ) (o : ℕ × List Text) (os : List (ℕ × List Text)) → o.0 ≤ c →
    how_many_up_to c (o ∷ os) ≡ how_many_up_to c os + 1
place_miss c o os h = grind arith
