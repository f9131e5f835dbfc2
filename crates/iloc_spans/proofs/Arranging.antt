-- Items in the order of their numbers, and one more behind them.
use Rattle.std.proofs.Common.{◌≡◌, ℕ, zero, suc, ◌+◌, ◌<◌, ◌≤◌, Bool, true, false, cond, List, [], ◌∷◌, ◌++◌, length, map, take, drop, refl, sym, ap, ◌∙◌, arith, append-nil, Some, None, true≢false, slice_index, inl, inr}
use Rattle.std.specs.declared.option.Option.{Option}
use Rattle.std.specs.Option.{option_or}
use Rattle.std.specs.Prelude.{is_some}
use Rattle.std.specs.List.{AllByRecursion, list_any}
use Rattle.std.specs.Ordering.{is_lt, is_eq, eq_by_cmp, nat_cmp}
use Rattle.std.specs.declared.cmp.Ordering.{Ordering}
use Rattle.std.specs.declared.cmp.Ordering.TheVariants.{Less, Equal, Greater}
use Rattle.std.specs.Cmp.{nat_cmp_is, nat_cmp_total, ranked}
use Rattle.std.specs.FinMap.{put, find, is_sorted, nat_cmp-IsAntisymmetric}
use Rattle.std.specs.FinMap.Entries.{by_order, below_all, is_sorted-put, find-put, find_tied, same_entries, length-put, is_some-find}
use Rattle.std.specs.FinMap.Entries as Entries
use Rattle.std.proofs.lemmas.Bool.{and_parts, and_from, cases_lt}
use Rattle.std.proofs.lemmas.List.{map-append, take-append-drop, drop_all}
use Rattle.iloc_spec_grammar.specs.Syntax.{IsAmong}
use Rattle.iloc_spec_grammar.specs.Meaning.{map_of}
use Rattle.iloc_spec_grammar.proofs.MapLaws.{less, all-map_of, sorted-map_of, is_sorted-map_of, find-map_of, map_of_same}
use Rattle.iloc_spec_grammar.proofs.SetLaws.{find-append}

-- ---- numbers as keys

pub or_none : {X : Type 0} (o : Option X) → option_or o None ≡ o
or_none None = refl
or_none (Some v) = refl

some_or : {X : Type 0} (a b : Option X) (x : X) → a ≡ Some x → option_or a b ≡ a
some_or a b x e = ap (λ p. option_or p b) e ∙ sym e

module _ {X : Type 0} where
  -- an equal key is there: the entry is left out
  pub map_of_there : (es : List (ℕ × X)) (k : ℕ) (v x : X) → find nat_cmp k (map_of nat_cmp es) ≡ Some x
      → map_of nat_cmp (es ++ (k, v) ∷ []) ≡ map_of nat_cmp es
  map_of_there es k v x e =
      map_of_same nat_cmp nat_cmp_total nat_cmp-IsAntisymmetric _ _
      (λ q. find-append nat_cmp q es ((k, v) ∷ []) ∙ at q (eq_by_cmp nat_cmp q k) refl)
    where
      at : (q : ℕ) (b : Bool) → eq_by_cmp nat_cmp q k ≡ b →
          option_or (find nat_cmp q es) (cond (eq_by_cmp nat_cmp q k) (Some v) None) ≡ find nat_cmp q es
      at q true t = some_or _ _ x (sym (find_tied nat_cmp nat_cmp_total q k (tie (nat_cmp q k) t) es)
          ∙ sym (find-map_of nat_cmp nat_cmp_total k es) ∙ e)
        where
          tie : (r : Ordering) → is_eq r ≡ true → r ≡ Equal
          tie Equal p = refl
          tie Less p = absurd (true≢false (sym p))
          tie Greater p = absurd (true≢false (sym p))
      at q false t =
          ap (λ b. option_or (find nat_cmp q es) (cond b (Some v) None)) t ∙ or_none (find nat_cmp q es)

  -- none is there: it is put into the map
  pub map_of_new : (es : List (ℕ × X)) (k : ℕ) (v : X) → find nat_cmp k (map_of nat_cmp es) ≡ None
      → map_of nat_cmp (es ++ (k, v) ∷ []) ≡ put nat_cmp k v (map_of nat_cmp es)
  map_of_new es k v e =
      same_entries nat_cmp nat_cmp_total nat_cmp-IsAntisymmetric _ _
      (sorted-map_of nat_cmp nat_cmp_total (es ++ (k, v) ∷ []))
      (is_sorted-put nat_cmp nat_cmp_total k v (map_of nat_cmp es) (sorted-map_of nat_cmp nat_cmp_total es))
      (λ q. find-map_of nat_cmp nat_cmp_total q (es ++ (k, v) ∷ [])
      ∙ Entries.find-append nat_cmp nat_cmp_total es k v q (sym (find-map_of nat_cmp nat_cmp_total k es) ∙ e)
      ∙ sym (find-put nat_cmp nat_cmp_total q k v (map_of nat_cmp es)
      ∙ ap (cond (eq_by_cmp nat_cmp q k) (Some v)) (find-map_of nat_cmp nat_cmp_total q es)))

  -- all keys are less
  abbrev IsAbove : ℕ → List (ℕ × X) → Type 0
  IsAbove k es = AllByRecursion (λ e. e.0 < k) es

  put_between : (k : ℕ) (v : X) (front back : List (ℕ × X)) → IsAbove k front →
      below_all nat_cmp k back ≡ true → put nat_cmp k v (front ++ back) ≡ front ++ (k, v) ∷ back
  put_between k v [] [] a b = refl
  put_between k v [] (e ∷ es) a b =
      ap (λ r. by_order r ((k, v) ∷ e ∷ es) ((e.0, v) ∷ es) (e ∷ put nat_cmp k v es))
      (less _ (and_parts _ _ b).0)
  put_between k v (f ∷ front) back a b =
      ap (λ r. by_order r ((k, v) ∷ f ∷ (front ++ back)) ((f.0, v) ∷ (front ++ back))
      (f ∷ put nat_cmp k v (front ++ back))) (sym (nat_cmp_is k f.0 Greater a.0))
      ∙ ap (λ l. f ∷ l) (put_between k v front back a.1 b)

  find_between : (k : ℕ) (front back : List (ℕ × X)) → IsAbove k front → below_all nat_cmp k back ≡ true →
      find nat_cmp k (front ++ back) ≡ None
  find_between k [] [] a b = refl
  find_between k [] (e ∷ es) a b =
      ap (λ r. cond (is_eq r) (Some e.1) (find nat_cmp k es)) (less _ (and_parts _ _ b).0)
      ∙ find_between k [] es tt (and_parts _ _ b).1
  find_between k (f ∷ front) back a b =
      ap (λ r. cond (is_eq r) (Some f.1) (find nat_cmp k (front ++ back)))
      (sym (nat_cmp_is k f.0 Greater a.0))
      ∙ find_between k front back a.1 b

  below_less : (k l : ℕ) (es : List (ℕ × X)) → k < l → below_all nat_cmp l es ≡ true →
      below_all nat_cmp k es ≡ true
  below_less k l [] p h = refl
  below_less k l (e ∷ es) p h =
      let parts = and_parts _ _ h in
      let first : l < e.0 = ranked l e.0 Less (sym (less _ parts.0)) in
      and_from _ _ (ap is_lt (sym (nat_cmp_is k e.0 Less (omega arith)))) (below_less k l es p parts.1)

-- ---- items by their numbers

module _ {X : Type 0} (word : X → ℕ) where
  abbrev pub numbered : List X → List (ℕ × X)
  numbered xs = map (λ x. (word x, x)) xs

  -- in the order of the numbers; of equal ones the first stays
  abbrev pub arranged : List X → List X
  arranged xs = map (λ (_, x). x) (map_of nat_cmp (numbered xs))

  pub renumbered : (es : List (ℕ × X)) → AllByRecursion (λ e. e.0 ≡ word e.1) es →
      numbered (map (λ (_, x). x) es) ≡ es
  renumbered [] h = refl
  renumbered (e ∷ es) h = λ i. (sym h.0 i, e.1) ∷ renumbered es h.1 i

  all_numbered : (xs : List X) → AllByRecursion (λ e. e.0 ≡ word e.1) (numbered xs)
  all_numbered [] = tt
  all_numbered (x ∷ xs) = (refl, all_numbered xs)

  pub numbered-arranged : (xs : List X) → numbered (arranged xs) ≡ map_of nat_cmp (numbered xs)
  numbered-arranged xs =
      renumbered (map_of nat_cmp (numbered xs))
      (all-map_of nat_cmp nat_cmp-IsAntisymmetric (λ e. e.0 ≡ word e.1) (numbered xs) (all_numbered xs))

  -- what is in order stays
  pub arranged_twice : (xs : List X) → arranged (arranged xs) ≡ arranged xs
  arranged_twice xs =
      ap (λ es. map (λ (_, x). x) (map_of nat_cmp es)) (numbered-arranged xs)
      ∙ ap (map (λ (_, x). x)) (map_of_same nat_cmp nat_cmp_total nat_cmp-IsAntisymmetric
      (map_of nat_cmp (numbered xs)) (numbered xs) (λ q. find-map_of nat_cmp nat_cmp_total q (numbered xs)))

  arranged-numbered : (ss : List X) (es : List (ℕ × X)) → numbered ss ≡ es → map (λ (_, x). x) es ≡ ss
  arranged-numbered [] es e = ap (map (λ (_, x). x)) (sym e)
  arranged-numbered (s ∷ ss) es e =
      ap (map (λ (_, x). x)) (sym e) ∙ ap (λ l. s ∷ l) (arranged-numbered ss (numbered ss) refl)

  -- the number of an item
  abbrev pub nth : List X → ℕ → ℕ
  nth xs i = slice_index (map word xs) i

  below_at : (k : ℕ) (xs : List X) (i : ℕ) → below_all nat_cmp k (numbered xs) ≡ true → i < length xs →
      k < nth xs i
  below_at k [] i h l = absurd (omega arith)
  below_at k (x ∷ xs) zero h l = ranked k (word x) Less (sym (less _ (and_parts _ _ h).0))
  below_at k (x ∷ xs) (suc i) h l = below_at k xs i (and_parts _ _ h).1 (omega arith)

  above_at : (w : ℕ) (xs : List X) (i : ℕ) → is_sorted nat_cmp (numbered xs) ≡ true → i < length xs →
      nth xs i < w → IsAbove w (numbered (take (suc i) xs))
  above_at w [] i h l p = absurd (omega arith)
  above_at w (x ∷ xs) zero h l p = (p, tt)
  above_at w (x ∷ xs) (suc i) h l p =
      let parts = and_parts _ _ h in
      let first : word x < nth xs i = below_at (word x) xs i parts.0 (omega arith) in
      (omega arith, above_at w xs i parts.1 (omega arith) p)

  below_from : (w : ℕ) (xs : List X) (i : ℕ) → is_sorted nat_cmp (numbered xs) ≡ true → i < length xs →
      w < nth xs i → below_all nat_cmp w (numbered (drop i xs)) ≡ true
  below_from w [] i h l p = absurd (omega arith)
  below_from w (x ∷ xs) zero h l p = and_from _ _ (ap is_lt (sym (nat_cmp_is w (word x) Less p)))
      (below_less w (word x) (numbered xs) p (and_parts _ _ h).0)
  below_from w (x ∷ xs) (suc i) h l p = below_from w xs i (and_parts _ _ h).1 (omega arith) p

  found_at : (xs : List X) (i : ℕ) → is_sorted nat_cmp (numbered xs) ≡ true → i < length xs →
      (y : X) × (find nat_cmp (nth xs i) (numbered xs) ≡ Some y)
  found_at [] i h l = absurd (omega arith)
  found_at (x ∷ xs) zero h l = (
    x,
    ap (λ r. cond (is_eq r) (Some x) (find nat_cmp (word x) (numbered xs)))
        (sym (nat_cmp_is (word x) (word x) Equal refl)),
  )
  found_at (x ∷ xs) (suc i) h l =
      let first : word x < nth xs i = below_at (word x) xs i (and_parts _ _ h).0 (omega arith) in
      let rest = found_at xs i (and_parts _ _ h).1 (omega arith) in (
        rest.0,
        ap (λ r. cond (is_eq r) (Some x) (find nat_cmp (nth xs i) (numbered xs)))
            (sym (nat_cmp_is _ _ Greater first))
            ∙ rest.1,
      )

  -- the number is between those of the items before the place and those from it on
  pub record IsPlace (xs : List X) (w i : ℕ) : Type 0 where
    pub within : i ≤ length xs
    pub after : (j : ℕ) → i ≡ suc j → nth xs j < w
    pub before : i < length xs → w < nth xs i

  sorted : (xs : List X) → is_sorted nat_cmp (numbered (arranged xs)) ≡ true
  sorted xs =
      ap (is_sorted nat_cmp) (numbered-arranged xs) ∙ is_sorted-map_of nat_cmp nat_cmp_total (numbered xs)

  pub numbered-more : (xs : List X) (x : X) → numbered (xs ++ x ∷ []) ≡ numbered xs ++ (word x, x) ∷ []
  numbered-more xs x = map-append (λ y. (word y, y)) xs (x ∷ [])

  keys-numbered : (xs : List X) → map (λ (e : ℕ × X). e.0) (numbered xs) ≡ map word xs
  keys-numbered [] = refl
  keys-numbered (x ∷ xs) = ap (λ l. word x ∷ l) (keys-numbered xs)

  pub found_among : (k : ℕ) (xs : List X)
      → is_some (find nat_cmp k (map_of nat_cmp (numbered xs))) ≡ list_any (eq_by_cmp nat_cmp k) (map word xs)
  found_among k xs =
      ap is_some (find-map_of nat_cmp nat_cmp_total k (numbered xs))
      ∙ is_some-find nat_cmp k (numbered xs)
      ∙ ap (list_any (eq_by_cmp nat_cmp k)) (keys-numbered xs)

  -- a number in order is among those of the items
  pub among_there : (xs : List X) (k i : ℕ) → i < length (arranged xs) → nth (arranged xs) i ≡ k
      → IsAmong nat_cmp k (map word xs)
  among_there xs k i l e =
      let there = found_at (arranged xs) i (sorted xs) l in
      sym (found_among k xs)
      ∙ ap is_some ((λ j. find nat_cmp (sym e j) (sym (numbered-arranged xs) j)) ∙ there.1)

  -- one more whose number is there is left out
  pub arranged_there : (xs : List X) (x : X) (i : ℕ) → i < length (arranged xs) →
      nth (arranged xs) i ≡ word x → arranged (xs ++ x ∷ []) ≡ arranged xs
  arranged_there xs x i l e =
      let there = found_at (arranged xs) i (sorted xs) l in
      ap (λ es. map (λ (_, x). x) (map_of nat_cmp es)) (numbered-more xs x)
      ∙ ap (map (λ (_, x). x)) (map_of_there (numbered xs) (word x) x there.0
      ((λ j. find nat_cmp (sym e j) (sym (numbered-arranged xs) j)) ∙ there.1))

  module _ (xs : List X) (x : X) (i : ℕ) (p : IsPlace (arranged xs) (word x) i) where
    cut : numbered (take i (arranged xs)) ++ numbered (drop i (arranged xs)) ≡ numbered (arranged xs)
    cut = sym (map-append (λ y. (word y, y)) (take i (arranged xs)) (drop i (arranged xs)))
        ∙ ap numbered (take-append-drop i (arranged xs))

    above : IsAbove (word x) (numbered (take i (arranged xs)))
    above = at i p.within p.after
      where
        at : (n : ℕ) → n ≤ length (arranged xs) → ((j : ℕ) → n ≡ suc j → nth (arranged xs) j < word x) →
            IsAbove (word x) (numbered (take n (arranged xs)))
        at zero l h = tt
        at (suc n) l h = above_at (word x) (arranged xs) n (sorted xs) (omega arith) (h n refl)

    below : below_all nat_cmp (word x) (numbered (drop i (arranged xs))) ≡ true
    below = elim (cases_lt i (length (arranged xs))) [
      | inl l ↦ below_from (word x) (arranged xs) i (sorted xs) l (p.before l)
      | inr l ↦ ap (λ ys. below_all nat_cmp (word x) (numbered ys)) (drop_all i (arranged xs) l)
    ]

    there : map_of nat_cmp (numbered xs) ≡ numbered (take i (arranged xs)) ++ numbered (drop i (arranged xs))
    there = sym (cut ∙ numbered-arranged xs)

    none : find nat_cmp (word x) (map_of nat_cmp (numbered xs)) ≡ None
    none = ap (find nat_cmp (word x)) there ∙ find_between (word x) _ _ above below

    -- its number is not among those of the items
    pub among_none : ¬ (IsAmong nat_cmp (word x) (map word xs))
    among_none a = true≢false (sym a ∙ sym (found_among (word x) xs) ∙ ap is_some none)

    -- a new number: the item stands at the place
    pub arranged_new : arranged (xs ++ x ∷ []) ≡ take i (arranged xs) ++ x ∷ drop i (arranged xs)
    arranged_new =
        arranged-numbered (take i (arranged xs) ++ x ∷ drop i (arranged xs)) _
        (map-append (λ y. (word y, y)) (take i (arranged xs)) (x ∷ drop i (arranged xs))
        ∙ sym (put_between (word x) x _ _ above below) ∙ ap (put nat_cmp (word x) x) (sym there)
        ∙ sym (map_of_new (numbered xs) (word x) x none) ∙ ap (map_of nat_cmp) (sym (numbered-more xs x)))

  -- ---- an item behind all others

  module _ (xs : List X) (x : X) (above : AllByRecursion (λ y. word y < word x) xs) where
    all_above : IsAbove (word x) (map_of nat_cmp (numbered xs))
    all_above = all-map_of nat_cmp nat_cmp-IsAntisymmetric (λ e. e.0 < word x) (numbered xs) (at xs above)
      where
        at : (ys : List X) → AllByRecursion (λ y. word y < word x) ys → IsAbove (word x) (numbered ys)
        at [] h = tt
        at (y ∷ ys) h = (h.0, at ys h.1)

    none_behind : find nat_cmp (word x) (map_of nat_cmp (numbered xs)) ≡ None
    none_behind =
        let es = map_of nat_cmp (numbered xs) in
        ap (find nat_cmp (word x)) (sym (append-nil es)) ∙ find_between (word x) es [] all_above refl

    -- a greater number is not among theirs
    pub among_less : ¬ (IsAmong nat_cmp (word x) (map word xs))
    among_less a = true≢false (sym a ∙ sym (found_among (word x) xs) ∙ ap is_some none_behind)

    -- and stays behind them
    pub arranged_behind : arranged (xs ++ x ∷ []) ≡ arranged xs ++ x ∷ []
    arranged_behind =
        let es = map_of nat_cmp (numbered xs) in
        ap (λ fs. map (λ (_, y). y) (map_of nat_cmp fs)) (numbered-more xs x)
        ∙ ap (map (λ (_, y). y))
        (map_of_new (numbered xs) (word x) x none_behind ∙ ap (put nat_cmp (word x) x) (sym (append-nil es))
        ∙ put_between (word x) x es [] all_above refl)
        ∙ map-append (λ (_, y). y) es ((word x, x) ∷ [])

-- ---- how many are left

module _ {X : Type 0} (word : X → ℕ) where
  length-listed : (es : List (ℕ × X)) → length (map (λ (_, x). x) es) ≡ length es
  length-listed [] = refl
  length-listed (e ∷ es) = ap suc (length-listed es)

  length-cons : (x : X) (xs : List X) → length (arranged word (x ∷ xs))
      ≡ cond (list_any (eq_by_cmp nat_cmp (word x)) (map word xs)) (length (arranged word xs))
      (length (arranged word xs) + 1)
  length-cons x xs =
      let es = map_of nat_cmp (numbered word xs) in
      length-listed (put nat_cmp (word x) x es)
      ∙ length-put nat_cmp nat_cmp_total (word x) x es
      (sorted-map_of nat_cmp nat_cmp_total (numbered word xs))
      ∙ (λ j. cond (found_among word (word x) xs j) (length es) (length es + 1))
      ∙ ap (λ n. cond (list_any (eq_by_cmp nat_cmp (word x)) (map word xs)) n (n + 1))
      (sym (length-listed es))

  pub length-arranged : (xs : List X) → length (arranged word xs) ≤ length xs
  length-arranged [] = omega arith
  length-arranged (x ∷ xs) =
      at (list_any (eq_by_cmp nat_cmp (word x)) (map word xs)) (length-cons x xs) (length-arranged xs)
    where
      at : (b : Bool) →
          length (arranged word (x ∷ xs))
          ≡ cond b (length (arranged word xs)) (length (arranged word xs) + 1) →
          length (arranged word xs) ≤ length xs
          → length (arranged word (x ∷ xs)) ≤ length (x ∷ xs)
      at true e h = omega arith
      at false e h = omega arith
