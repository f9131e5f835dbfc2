-- A span is put in a tree of spans in order.
use Rattle.std.proofs.Common.{◌≡◌, ℕ, List, [], ◌∷◌, ◌++◌, map, refl, sym, ap, ◌∙◌, Some, None, true, false, true≢false, cond, drop, slice_index, length, ◌+◌, ◌≤◌, arith}
use Rattle.std.specs.declared.option.Option.{Option}
use Rattle.std.specs.Prelude.{is_some}
use Rattle.std.specs.BTreeMap.{insert_entry, is_at}
use Rattle.std.specs.FinMap.{put, find}
use Rattle.std.specs.FinMap.Entries.{by_order}
use Rattle.std.specs.Cmp.{ranked}
use Rattle.std.specs.List.{AllByRecursion, list_any}
use Rattle.std.specs.Map.{lookup}
use Rattle.std.specs.Ordering.{eq_by_cmp, match_ordering, nat_cmp}
use Rattle.std.specs.declared.cmp.Ordering.{Ordering}
use Rattle.std.specs.declared.cmp.Ordering.TheVariants.{Less, Equal, Greater}
use Rattle.iloc_spec_grammar.specs.Syntax.{IsAmong}
use Rattle.iloc_spec_grammar.specs.Meaning.{map_of}
use Rattle.iloc_spans.proofs.Arranging.{arranged, found_among, map_of_new, map_of_there, numbered, numbered-arranged, numbered-more, renumbered}

module _ {X : Type 0} where
  -- an entry is inserted as it is put
  inserted_put : (k : ℕ) (v : X) (es : List (ℕ × X)) → insert_entry nat_cmp es k v ≡ put nat_cmp k v es
  inserted_put k v [] = refl
  inserted_put k v (e ∷ es) =
      ap (λ rest. match_ordering (nat_cmp k e.0) ((k, v) ∷ e ∷ es) ((e.0, v) ∷ es) (e ∷ rest))
      (inserted_put k v es)
      ∙ at (nat_cmp k e.0)
    where
      at : (o : Ordering)
          → match_ordering o ((k, v) ∷ e ∷ es) ((e.0, v) ∷ es) (e ∷ put nat_cmp k v es)
          ≡ by_order o ((k, v) ∷ e ∷ es) ((e.0, v) ∷ es) (e ∷ put nat_cmp k v es)
      at Less = refl
      at Equal = refl
      at Greater = refl

  -- there is one more at most
  pub inserted_few : (k : ℕ) (v : X) (es : List (ℕ × X))
      → length (insert_entry nat_cmp es k v) ≤ length es + 1
  inserted_few k v [] = omega arith
  inserted_few k v (e ∷ es) = at (nat_cmp k e.0) (inserted_few k v es)
    where
      at : (o : Ordering) → length (insert_entry nat_cmp es k v) ≤ length es + 1
          → length (match_ordering o ((k, v) ∷ e ∷ es) ((e.0, v) ∷ es) (e ∷ insert_entry nat_cmp es k v))
          ≤ length (e ∷ es) + 1
      at Less h = omega arith
      at Equal h = omega arith
      at Greater h = omega arith

  -- an entry is looked up as it is found
  looked_up : (k : ℕ) (es : List (ℕ × X)) → lookup (is_at (nat_cmp k)) es ≡ find nat_cmp k es
  looked_up k [] = refl
  looked_up k (e ∷ es) = ap (cond (is_at (nat_cmp k) e.0) (Some e.1)) (looked_up k es)

  is_there : (o : Option X) → is_some o ≡ true → (x : X) × (o ≡ Some x)
  is_there None e = absurd (true≢false (sym e))
  is_there (Some x) e = (x, refl)

  is_none : (o : Option X) → is_some o ≡ false → o ≡ None
  is_none None e = refl
  is_none (Some x) e = absurd (true≢false e)

module _ {X : Type 0} (word : X → ℕ) (es : List (ℕ × X)) (keyed : AllByRecursion (λ e. e.0 ≡ word e.1) es)
    (xs : List X) (are : map (λ e. e.1) es ≡ arranged word xs) where
  -- the entries are those of the items
  entries : es ≡ map_of nat_cmp (numbered word xs)
  entries = sym (renumbered word es keyed) ∙ ap (numbered word) are ∙ numbered-arranged word xs

  found : (k : ℕ) → is_some (lookup (is_at (nat_cmp k)) es) ≡ list_any (eq_by_cmp nat_cmp k) (map word xs)
  found k = ap is_some (looked_up k es ∙ ap (find nat_cmp k) entries) ∙ found_among word k xs

  module _ (x : X) where
    -- its number is there
    pub grouped_there : is_some (lookup (is_at (nat_cmp (word x))) es) ≡ true
        → (map (λ e. e.1) es ≡ arranged word (xs ++ x ∷ [])) × IsAmong nat_cmp (word x) (map word xs)
    grouped_there is =
        let there =
        is_there _ (ap is_some (sym (looked_up (word x) es ∙ ap (find nat_cmp (word x)) entries)) ∙ is) in (
          are ∙ ap (map (λ (_, y). y)) (sym (ap (map_of nat_cmp) (numbered-more word xs x)
              ∙ map_of_there (numbered word xs) (word x) x there.0 there.1)),
          sym (found (word x)) ∙ is,
        )

    module _ (is : is_some (lookup (is_at (nat_cmp (word x))) es) ≡ false) where
      new_entries : insert_entry nat_cmp es (word x) x ≡ map_of nat_cmp (numbered word (xs ++ x ∷ []))
      new_entries =
          let none =
          is_none _ (ap is_some (sym (looked_up (word x) es ∙ ap (find nat_cmp (word x)) entries)) ∙ is) in
          inserted_put (word x) x es ∙ ap (put nat_cmp (word x) x) entries
          ∙ sym (map_of_new (numbered word xs) (word x) x none)
          ∙ ap (map_of nat_cmp) (sym (numbered-more word xs x))

      -- its number is new
      pub grouped_put : (map (λ e. e.1) (insert_entry nat_cmp es (word x) x) ≡ arranged word (xs ++ x ∷ []))
          × ¬ (IsAmong nat_cmp (word x) (map word xs))
      grouped_put = (
        ap (map (λ e. e.1)) new_entries,
        λ a. true≢false (sym a ∙ sym (found (word x)) ∙ is),
      )

-- each entry has the number of its item, one more too
module _ {X : Type 0} (word : X → ℕ) (x : X) where
  pub keyed_put : (es : List (ℕ × X)) → AllByRecursion (λ e. e.0 ≡ word e.1) es
      → AllByRecursion (λ e. e.0 ≡ word e.1) (insert_entry nat_cmp es (word x) x)
  keyed_put [] h = (refl, tt)
  keyed_put (e ∷ es) h = at (nat_cmp (word x) e.0) refl (keyed_put es h.1)
    where
      at : (o : Ordering) → nat_cmp (word x) e.0 ≡ o
          → AllByRecursion (λ f. f.0 ≡ word f.1) (insert_entry nat_cmp es (word x) x)
          → AllByRecursion (λ f. f.0 ≡ word f.1)
          (match_ordering o ((word x, x) ∷ e ∷ es) ((e.0, x) ∷ es) (e ∷ insert_entry nat_cmp es (word x) x))
      at Less is rest = (refl, h)
      at Equal is rest = (sym (ranked (word x) e.0 Equal (sym is)), h.1)
      at Greater is rest = (h.0, rest)

-- keys are the numbers of items where each is
module _ {X : Type 0} (word : X → ℕ) where
  pub keyed_each : (es : List (ℕ × X)) → map (λ e. e.0) es ≡ map (λ e. word e.1) es
      → AllByRecursion (λ e. e.0 ≡ word e.1) es
  keyed_each [] h = tt
  keyed_each (e ∷ es) h = (ap (λ l. slice_index l 0) h, keyed_each es (ap (drop 1) h))

  pub each_keyed : (es : List (ℕ × X)) → AllByRecursion (λ e. e.0 ≡ word e.1) es
      → map (λ e. e.0) es ≡ map (λ e. word e.1) es
  each_keyed [] h = refl
  each_keyed (e ∷ es) h = λ j. h.0 j ∷ each_keyed es h.1 j
