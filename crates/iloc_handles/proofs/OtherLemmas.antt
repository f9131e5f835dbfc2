-- Where other extensions stand among the others, and where a new one belongs.
use Rattle.std.proofs.Common.{◌≡◌, ◌≢◌, ℕ, suc, ◌+◌, ◌<◌, ◌≤◌, Bool, true, false, cond, ◌==◌, List, [], ◌∷◌, length, refl, sym, ap, ◌∙◌, subst, arith, true≢false, nat_lt}
use Rattle.std.specs.Prelude.{Option, Some, is_some, option_map, slice_get, unwrap_or}
use Rattle.std.specs.List.{insert, slice_set}
use Rattle.std.specs.Ordering.{nat_cmp, eq_by_cmp}
use Rattle.std.specs.declared.cmp.Ordering.{Ordering}
use Rattle.std.specs.declared.cmp.Ordering.TheVariants.{Less, Equal, Greater}
use Rattle.std.specs.FinMap.{find, put}
use Rattle.std.specs.FinMap.Entries.{by_order}
use Rattle.std.proofs.lemmas.Bool.Decides.{nat_tests}
use Rattle.iloc_spec_grammar.specs.Syntax.{Text, Block}
use Rattle.iloc_handles.specs.OtherPlaces.{how_many_less, place_of_singleton}

tied : (a b : ℕ) → b ≡ a → eq_by_cmp nat_cmp a b ≡ true
tied a b e = grind (arith, nat_tests)

apart : (a b : ℕ) → b ≢ a → eq_by_cmp nat_cmp a b ≡ false
apart a b e = grind (arith, nat_tests)

same : (a b : ℕ) → (a == b) ≡ true → a ≡ b
same a b e = grind (arith, nat_tests)

differ : (a b : ℕ) → (a == b) ≡ false → a ≢ b
differ a b e = grind (arith, nat_tests)

-- the first of a singleton stands at its place
pub at_singleton : (c : ℕ) (os : List Block)
    → slice_get os (place_of_singleton c os) ≡ option_map (λ ws. (c, ws)) (find nat_cmp c os)
at_singleton c [] = refl
at_singleton c (o ∷ os) = by_test (o.0 == c) refl (at_singleton c os)
  where
    Found : Bool → Option Block
    Found t = option_map (λ ws. (c, ws)) (cond t (Some o.1) (find nat_cmp c os))

    by_test : (b : Bool) → (o.0 == c) ≡ b
        → slice_get os (place_of_singleton c os) ≡ option_map (λ ws. (c, ws)) (find nat_cmp c os)
        → slice_get (o ∷ os) (cond b 0 (suc (place_of_singleton c os))) ≡ Found (eq_by_cmp nat_cmp c o.0)
    by_test true e more = let s = same o.0 c e in ap (λ d. Some (d, o.1)) s ∙ sym (ap Found (tied c o.0 s))
    by_test false e more = more ∙ sym (ap Found (apart c o.0 (differ o.0 c e)))

pub singleton_none : (c : ℕ) → place_of_singleton c [] ≡ 0
singleton_none c = refl

pub singleton_hit : (c : ℕ) (o : Block) (os : List Block) → o.0 ≡ c → place_of_singleton c (o ∷ os) ≡ 0
singleton_hit c o os h =
    let is : (o.0 == c) ≡ true = grind (arith, nat_tests) in
    ap (λ b. cond b 0 (suc (place_of_singleton c os))) is

pub singleton_miss : (c : ℕ) (o : Block) (os : List Block) → o.0 ≢ c
    → place_of_singleton c (o ∷ os) ≡ place_of_singleton c os + 1
singleton_miss c o os h =
    let next : suc (place_of_singleton c os) ≡ place_of_singleton c os + 1 = omega arith in
    let is : (o.0 == c) ≡ false = grind (arith, nat_tests) in
    ap (λ b. cond b 0 (suc (place_of_singleton c os))) is ∙ next

pub place_none : (c : ℕ) → how_many_less c [] ≡ 0
place_none c = refl

pub place_hit : (c : ℕ) (o : Block) (os : List Block) → c ≤ o.0 → how_many_less c (o ∷ os) ≡ 0
place_hit c o os h =
    let is : nat_lt o.0 c ≡ false = grind (arith, nat_tests) in
    ap (λ b. cond b (suc (how_many_less c os)) 0) is

pub place_miss : (c : ℕ) (o : Block) (os : List Block) → o.0 < c →
    how_many_less c (o ∷ os) ≡ how_many_less c os + 1
place_miss c o os h =
    let next : suc (how_many_less c os) ≡ how_many_less c os + 1 = omega arith in
    let is : nat_lt o.0 c ≡ true = grind (arith, nat_tests) in
    ap (λ b. cond b (suc (how_many_less c os)) 0) is ∙ next

less : (a b : ℕ) → nat_lt b a ≡ false → b ≢ a → nat_cmp a b ≡ Less
less a b n d = grind (arith, nat_tests)

equal : (a b : ℕ) → b ≡ a → nat_cmp a b ≡ Equal
equal a b h = grind (arith, nat_tests)

greater : (a b : ℕ) → nat_lt b a ≡ true → nat_cmp a b ≡ Greater
greater a b h = grind (arith, nat_tests)

module _ (c : ℕ) (ws : List Text) where
  abbrev Put : Block → List Block → Ordering → List Block
  Put p os r = by_order r ((c, ws) ∷ p ∷ os) ((p.0, ws) ∷ os) (p ∷ put nat_cmp c ws os)

  abbrev At : Block → List Block → Bool → ℕ
  At p os b = cond b (suc (how_many_less c os)) 0

  -- an extension is put over that of its singleton
  pub put_there : (os : List Block) (o : Block) → slice_get os (how_many_less c os) ≡ Some o → o.0 ≡ c
      → slice_set os (how_many_less c os) (c, ws) ≡ put nat_cmp c ws os
  put_there [] o e s = absurd (true≢false (sym (ap is_some e)))
  put_there (p ∷ os) o e s = by_test (nat_lt p.0 c) refl (put_there os o)
    where
      by_test : (b : Bool) → nat_lt p.0 c ≡ b
          → (slice_get os (how_many_less c os) ≡ Some o → o.0 ≡ c →
          slice_set os (how_many_less c os) (c, ws) ≡ put nat_cmp c ws os)
          → slice_set (p ∷ os) (At p os b) (c, ws) ≡ Put p os (nat_cmp c p.0)
      by_test true q more =
          ap (λ l. p ∷ l) (more (subst (λ b. slice_get (p ∷ os) (At p os b) ≡ Some o) q e) s)
          ∙ sym (ap (Put p os) (greater c p.0 q))
      by_test false q more =
          let here : p.0 ≡ o.0 =
          ap (λ x. (unwrap_or x p).0) (subst (λ b. slice_get (p ∷ os) (At p os b) ≡ Some o) q e) in
          ap (λ d. (d, ws) ∷ os) (sym (here ∙ s)) ∙ sym (ap (Put p os) (equal c p.0 (here ∙ s)))

  -- and another one is put before the first that is greater
  pub put_new : (os : List Block) → ((o : Block) → slice_get os (how_many_less c os) ≡ Some o → o.0 ≢ c)
      → insert os (how_many_less c os) (c, ws) ≡ put nat_cmp c ws os
  put_new [] new = refl
  put_new (p ∷ os) new = by_test (nat_lt p.0 c) refl (put_new os)
    where
      by_test : (b : Bool) → nat_lt p.0 c ≡ b
          → (((o : Block) → slice_get os (how_many_less c os) ≡ Some o → o.0 ≢ c)
          → insert os (how_many_less c os) (c, ws) ≡ put nat_cmp c ws os)
          → insert (p ∷ os) (At p os b) (c, ws) ≡ Put p os (nat_cmp c p.0)
      by_test true q more =
          ap (λ l. p ∷ l)
          (more (λ o e. new o (subst (λ b. slice_get (p ∷ os) (At p os b) ≡ Some o) (sym q) e)))
          ∙ sym (ap (Put p os) (greater c p.0 q))
      by_test false q more =
          let other = new p (subst (λ b. slice_get (p ∷ os) (At p os b) ≡ Some p) (sym q) refl) in
          sym (ap (Put p os) (less c p.0 q other))

-- the place is one of the list, or its end
pub place_fits : (c : ℕ) (os : List Block) → how_many_less c os ≤ length os
place_fits c [] = omega arith
place_fits c (o ∷ os) =
    let h = place_fits c os in
    elim (nat_lt o.0 c) as (λ b. cond b (suc (how_many_less c os)) 0 ≤ suc (length os)) [
      | true ↦ omega (arith, h)
      | false ↦ omega arith
    ]
