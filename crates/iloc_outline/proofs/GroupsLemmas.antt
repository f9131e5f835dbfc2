-- Blocks among parts in groups, and where one is put.
use Rattle.std.proofs.Common.{◌≡◌, ℕ, zero, suc, ◌+◌, ◌-◌, ◌<◌, ◌≤◌, ◌==◌, nat_lt, Bool, true, false, cond, ◌&&◌, ◌||◌, List, [], ◌∷◌, ◌++◌, length, map, take, drop, refl, sym, ap, ap₂, ◌∙◌, arith, append-nil, slice_index_or}
use Rattle.std.specs.List.{AllByRecursion, AllZip, list_any}
use Rattle.std.specs.Ordering.{is_eq, eq_by_cmp, nat_cmp}
use Rattle.std.specs.declared.cmp.Ordering.{Ordering}
use Rattle.std.specs.declared.cmp.Ordering.TheVariants.{Less, Equal, Greater}
use Rattle.std.specs.Cmp.{ranked}
use Rattle.std.specs.FinMap.{put}
use Rattle.std.specs.FinMap.Entries.{by_order}
use Rattle.std.proofs.lemmas.Bool.{or_parts, or_right}
use Rattle.std.proofs.lemmas.Bool.Decides.{nat_tests}
use Rattle.std.proofs.lemmas.List.{length-take-le, take-take, drop-drop, drop-take, get_or-take}
use Rattle.std.proofs.lemmas.List.Folds.{list_any-append}
use Rattle.iloc_spec_grammar.specs.Syntax.{Text, IsAmong}
use Rattle.iloc_outline.specs.Groups.{AreGroups, IsGroup, is_greater, is_singleton, parts_in}
use Rattle.iloc_outline.specs.Parts.{Part}
use Rattle.iloc_outline.specs.Spans.{IsSpan}
use Rattle.iloc_spans.specs.declared.span.Role.{Role}
use Rattle.iloc_spans.specs.declared.span.Role.TheVariants.{Variant, Singleton}
use Rattle.iloc_spans.specs.declared.span.Span.{Span}
use Rattle.iloc_spans.specs.contracts.span.Role.{the_type}
use Rattle.iloc_outline.proofs.SpansLemmas.{zip_append, zip_take, zip_drop}
use denote.Enum.Bare.{sameb}
use Rattle.iloc_spec_grammar.proofs.SameMeaning.{same_test as tied_number}

-- as the code asks it
pub singleton_told : (r : Role) → sameb the_type r Singleton ≡ is_singleton r
singleton_told Variant = refl
singleton_told _ = refl

no_singleton : (r : Role) → (r ≡ Singleton → ⊥) → is_singleton r ≡ false
no_singleton Singleton n = absurd (n refl)
no_singleton _ n = refl

-- whether a singleton has the rank
abbrev pub is_of_rank : ℕ → Role → ℕ → Bool
is_of_rank rank role word = is_singleton role && (word == rank)

-- ---- partners

zip_any : {A B : Type 0} (R : A → B → Type 0) (f : A → Bool) (g : B → Bool)
    → ((x : A) (y : B) → R x y → f x ≡ g y)
    → (xs : List A) (ys : List B) → AllZip R xs ys → list_any f xs ≡ list_any g ys
zip_any R f g same [] [] h = refl
zip_any R f g same [] (y ∷ ys) h = absurd h
zip_any R f g same (x ∷ xs) [] h = absurd h
zip_any R f g same (x ∷ xs) (y ∷ ys) h = ap₂ ◌||◌ (same x y h.0) (zip_any R f g same xs ys h.1)

-- a test of a span is that of its part
same_test : (f : Role → ℕ → Bool) (t : Text) (s : Span) (p : Part) → IsSpan t s p → f s.role s.word
    ≡ f p.role p.word
same_test f t s p is = λ i. f (is.role i) (is.word i)

-- ---- is there a block

module _ (test : ℕ → Bool) where
  none_plain : (ps : List Part) → AllByRecursion (λ (q : Part). q.role ≡ Singleton → ⊥) ps
      → list_any (λ (p : Part). is_singleton p.role && test p.word) ps ≡ false
  none_plain [] h = refl
  none_plain (p ∷ ps) h = search (no_singleton, none_plain ps h.1)

any_group : (rank : ℕ) (gs : List (ℕ × List Part)) → AllByRecursion IsGroup gs
    → list_any (λ (p : Part). is_of_rank rank p.role p.word) (parts_in gs)
    ≡ list_any (eq_by_cmp nat_cmp rank) (map (λ (r, _). r) gs)
any_group rank [] h = refl
any_group rank ((r, []) ∷ gs) h = absurd h.0
any_group rank ((r, p ∷ ps) ∷ gs) h =
    let test = λ (p : Part). is_of_rank rank p.role p.word in
    let first : test p ≡ eq_by_cmp nat_cmp rank r =
    (λ i. is_singleton (h.0.0 i) && (h.0.1 i == rank)) ∙ tied_number rank r in
    ap₂ ◌||◌ first (list_any-append test ps (parts_in gs)
    ∙ ap₂ ◌||◌ (none_plain (λ w. w == rank) ps h.0.2) (any_group rank gs h.1))

-- a span is a block of the rank where a group has it
pub any_span : (rank : ℕ) (t : Text) (ss : List Span) (before : List Part) (gs : List (ℕ × List Part))
    → AreGroups before gs
    → AllZip (IsSpan t) ss (before ++ parts_in gs) → list_any (λ s. is_of_rank rank s.role s.word) ss
    ≡ list_any (eq_by_cmp nat_cmp rank) (map (λ (r, _). r) gs)
any_span rank t ss before gs g h =
    let test = λ (p : Part). is_of_rank rank p.role p.word in
    zip_any (IsSpan t) (λ s. is_of_rank rank s.role s.word) test (same_test (is_of_rank rank) t) ss
    (before ++ parts_in gs) h
    ∙ list_any-append test before (parts_in gs)
    ∙ ap₂ ◌||◌ (none_plain (λ w. w == rank) before g.0) (any_group rank gs g.1)

-- ---- where a block goes

module _ {A : Type 0} (test : A → Bool) (new : List A) where
  -- before the first that passes
  abbrev pub inserted : List A → List A
  inserted [] = new
  inserted (x ∷ xs) = cond (test x) (new ++ x ∷ xs) (x ∷ inserted xs)

  pub inserted_at : (xs : List A) (at : ℕ) (d : A) → list_any test (take at xs) ≡ false
      → (at < length xs → test (slice_index_or xs at d) ≡ true) → at ≤ length xs
      → take at xs ++ (new ++ drop at xs) ≡ inserted xs
  inserted_at [] zero d none some l = append-nil new
  inserted_at [] (suc at) d none some l = absurd (omega arith)
  inserted_at (x ∷ xs) zero d none some l = grind arith
  inserted_at (x ∷ xs) (suc at) d none some l =
      let parts = or_parts _ _ none in
      ap (λ l. x ∷ l) (inserted_at xs at d parts.1 (λ m. some (omega arith)) (omega arith))
      ∙ ap (λ b. cond b (new ++ x ∷ xs) (x ∷ inserted xs)) (sym parts.0)

  inserted_behind : (before xs : List A) → list_any test before ≡ false → inserted (before ++ xs)
      ≡ before ++ inserted xs
  inserted_behind [] xs none = refl
  inserted_behind (x ∷ before) xs none =
      let parts = or_parts _ _ none in
      grind (arith, inserted_behind before xs parts.1)

zip_inserted : {A B : Type 0} (R : A → B → Type 0) (f : A → Bool) (g : B → Bool)
    → ((x : A) (y : B) → R x y → f x ≡ g y)
    → (news : List A) (mews : List B) → AllZip R news mews → (xs : List A) (ys : List B) → AllZip R xs ys
    → AllZip R (inserted f news xs) (inserted g mews ys)
zip_inserted R f g same news mews n [] [] h = n
zip_inserted R f g same news mews n [] (y ∷ ys) h = absurd h
zip_inserted R f g same news mews n (x ∷ xs) [] h = absurd h
zip_inserted R f g same news mews n (x ∷ xs) (y ∷ ys) h = grind
    (arith, zip_append, zip_inserted R f g same news mews n xs ys h.1)

-- a new group is put before the first of a greater rank
group_put : (rank : ℕ) (new : List Part) (gs : List (ℕ × List Part)) → AllByRecursion IsGroup gs
    → ¬ (IsAmong nat_cmp rank (map (λ (r, _). r) gs))
    → inserted (λ (p : Part). is_greater rank p.role p.word) new (parts_in gs)
    ≡ parts_in (put nat_cmp rank new gs)
group_put rank new [] h n = sym (append-nil new)
group_put rank new ((r, []) ∷ gs) h n = absurd h.0
group_put rank new ((r, p ∷ ps) ∷ gs) h n =
    at (nat_cmp rank r) refl (group_put rank new gs h.1 (λ m. n (or_right _ _ m)))
  where
    first : is_greater rank p.role p.word ≡ nat_lt rank r
    first = λ i. is_singleton (h.0.0 i) && nat_lt rank (h.0.1 i)

    at : (o : Ordering) → nat_cmp rank r ≡ o
        → inserted (λ (q : Part). is_greater rank q.role q.word) new (parts_in gs)
        ≡ parts_in (put nat_cmp rank new gs)
        → inserted (λ (q : Part). is_greater rank q.role q.word) new (p ∷ (ps ++ parts_in gs))
        ≡ parts_in (by_order (nat_cmp rank r) ((rank, new) ∷ (r, p ∷ ps) ∷ gs) ((r, new) ∷ gs)
        ((r, p ∷ ps) ∷ put nat_cmp rank new gs))
    at Less e rest =
        grind (arith, nat_tests)
    at Equal e rest = absurd (n (ap
        (λ o. is_eq o || list_any (eq_by_cmp nat_cmp rank) (map (λ (r, _). r) gs)) e))
    at Greater e rest =
        let more : r < rank = ranked rank r Greater (sym e) in
        let b : nat_lt rank r ≡ false = grind (arith, nat_tests) in
        cc (
          first,
          b,
          inserted_behind (λ (q : Part). is_greater rank q.role q.word) new ps (parts_in gs)
              (none_plain (λ w. nat_lt rank w) ps h.0.2),
          rest,
          e,
        )

-- the last spans are put before the first block of a greater rank
pub spell_placed : (rank : ℕ) (t : Text) (list new : List Span) (before ps : List Part)
    (gs : List (ℕ × List Part)) (from at : ℕ) (d : Span)
    → AreGroups before gs → ¬ (IsAmong nat_cmp rank (map (λ (r, _). r) gs))
    → length (before ++ parts_in gs) ≡ from
    → AllZip (IsSpan t) list ((before ++ parts_in gs) ++ ps) → at ≤ from → from ≤ length list
    → list_any (λ s. is_greater rank s.role s.word) (take at list) ≡ false
    → (at < from → is_greater rank (slice_index_or list at d).role (slice_index_or list at d).word ≡ true)
    → new ≡ take at list ++ (drop (from - at) (drop at list) ++ take (from - at) (drop at list))
    → AllZip (IsSpan t) new (before ++ parts_in (put nat_cmp rank ps gs))
spell_placed rank t list new before ps gs from at d g n long h low middle none some e =
    let f = λ (s : Span). is_greater rank s.role s.word in
    let test = λ (p : Part). is_greater rank p.role p.word in
    let R = IsSpan t in
    let moved = drop from list in
    let m : at + (from - at) ≡ from = omega arith in
    let front : AllZip R (take from list) (before ++ parts_in gs) =
    rw long at (zip_take R list (before ++ parts_in gs) ps h) in
    let back : AllZip R moved ps =
    rw long at (zip_drop R list (before ++ parts_in gs) ps h) in
    let behind : drop (from - at) (drop at list) ≡ moved =
    drop-drop (from - at) at list ∙ ap (λ k. drop k list) m in
    let between : take (from - at) (drop at list) ≡ drop at (take from list) =
    sym (drop-take at (from - at) list) ∙ ap (λ k. drop at (take k list)) m in
    let is : new ≡ inserted f moved (take from list) =
    e ∙ (λ j. sym (take-take at from list low) j ++ (behind j ++ between j))
    ∙ inserted_at f moved (take from list) at d (ap (list_any f) (take-take at from list low) ∙ none)
    (grind (arith, length-take-le, get_or-take)) (omega (arith, length-take-le from list middle)) in
    let parts : inserted test ps (before ++ parts_in gs) ≡ before ++ parts_in (put nat_cmp rank ps gs) =
    cc (
      inserted_behind test ps before (parts_in gs) (none_plain (λ w. nat_lt rank w) before g.0),
      group_put rank ps gs g.1 n,
    ) in
    grind (arith, zip_inserted, same_test)
