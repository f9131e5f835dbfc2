-- A set of words as an ascending list: where a search ends, and words more or less.
use Rattle.std.proofs.Common.{◌≡◌, ℕ, zero, suc, ◌<◌, ◌≤◌, Bool, true, false, cond, not, ◌||◌, T, List, [], ◌∷◌, ◌++◌, length, filter, remove, drop, get_or, append-nil, ◌+◌, refl, sym, ap, ◌∙◌, subst, arith}
use Rattle.std.specs.Prelude.{insert}
use Rattle.std.specs.List.{AllByRecursion, HoldsAt, list_any, slice_index_or}
use Rattle.std.specs.List.Sorted.{IsNonDecreasingBy, IsPartitionPoint}
use Rattle.std.specs.Ordering.{ordering_index, ordering_reverse}
use Rattle.std.specs.declared.cmp.Ordering.{Ordering}
use Rattle.std.specs.declared.cmp.Ordering.TheVariants.{Less, Equal, Greater}
use Rattle.std.specs.FinMap.{put, is_sorted}
use Rattle.std.specs.FinMap.Entries.{where_key, is_sorted-where_key}
use Rattle.std.proofs.lemmas.Bool.{and_parts, or_parts}
use Rattle.std.proofs.lemmas.List.{drop_all, drop_more}
use Rattle.std.proofs.lemmas.List.Elements.{All-from_recursion}
use Rattle.iloc_spec_grammar.specs.Syntax.{Text, word_cmp, is_same}
use Rattle.iloc_spec_grammar.specs.Meaning.{set_of}
use Rattle.iloc_spec_grammar.specs.Values.{StrictlyAscends}
use Rattle.iloc_spec_grammar.proofs.MapLaws.{word_cmp_total, same_words, to_T, less, map_of_sorted, from_T}
use Rattle.iloc_spec_grammar.proofs.ValuesLaws.{unmarked, set_of_ascending, keys_ascend, ascend_as_keys}
use Rattle.iloc_word_list.specs.Ascending.{ascends}
use Rattle.iloc_spec_grammar.proofs.SetLaws.{marked, keys, same_set, any-set_of}
use Rattle.std.proofs.lemmas.List.Folds.{list_any-append}

-- the order

turned : (x y : Text) (r : Ordering) → word_cmp y x ≡ r → word_cmp x y ≡ ordering_reverse r
turned x y r h = word_cmp_total.antisymm x y ∙ ap ordering_reverse h

less_index : (a b x : Text) → word_cmp a b ≡ Less →
    ordering_index (word_cmp a x) ≤ ordering_index (word_cmp b x)
less_index a b x h = by (word_cmp b x) refl
  where
    top : (r : Ordering) → ordering_index r ≤ 2
    top Less = omega arith
    top Equal = omega arith
    top Greater = omega arith

    by : (r : Ordering) → word_cmp b x ≡ r → ordering_index (word_cmp a x) ≤ ordering_index r
    by Less e = rw (word_cmp_total.trans a b x h e) (omega arith)
    by Equal e = rw (turned a x (word_cmp x a) refl, sym (word_cmp_total.congr b x a e), turned b a Less h)
        (omega arith)
    by Greater e = top (word_cmp a x)

-- the answers of a search rise along a set
rising : (x : Text) (ws : List Text) → StrictlyAscends word_cmp ws →
    IsNonDecreasingBy (λ y. ordering_index (word_cmp y x)) ws
rising x [] s i j d le lt = absurd (omega (arith, lt))
rising x (y ∷ ys) s zero zero d le lt = omega arith
rising x (y ∷ ys) s zero (suc j) d le lt = less_index y (slice_index_or ys j d) x
    (All-from_recursion (λ z. word_cmp y z ≡ Less) ys s.0 j d (omega (arith, lt)))
rising x (y ∷ ys) s (suc i) zero d le lt = absurd (omega (arith, le))
rising x (y ∷ ys) s (suc i) (suc j) d le lt = rising x ys s.1 i j d (omega (arith, le)) (omega (arith, lt))

-- one word more

set_of-put : (x : Text) (ws : List Text) → StrictlyAscends word_cmp ws →
    set_of (x ∷ ws) ≡ keys (put word_cmp x x (marked ws))
set_of-put x ws h =
    ap (λ es. keys (put word_cmp x x es)) (map_of_sorted word_cmp (marked ws) (keys_ascend ws h))

none_below : (x y : Text) (ys : List Text) → word_cmp x y ≡ Less →
    AllByRecursion (λ z. word_cmp y z ≡ Less) ys → list_any (is_same x) ys ≡ false
none_below x y [] l s = refl
none_below x y (z ∷ zs) l s = rw (word_cmp_total.trans x y z l s.0) (none_below x y zs l s.1)

-- the place of a word that is not there
abbrev IsPlace : Text → List Text → ℕ → Type 0
IsPlace x ws i = IsPartitionPoint (λ y. word_cmp y x ≡ Less) (λ y. word_cmp y x ≡ Greater) ws i

place_later : (x y : Text) (ys : List Text) (i : ℕ) → IsPlace x (y ∷ ys) (suc i) → IsPlace x ys i
place_later x y ys i p = (
  λ k d a b. p.0 (suc k) d (omega arith) (omega (arith, b)),
  λ k d a b. p.1 (suc k) d (omega (arith, a)) (omega (arith, b)),
)

insert_is_put : (x : Text) (ws : List Text) (i : ℕ) → i ≤ length ws → IsPlace x ws i →
    insert ws i x ≡ keys (put word_cmp x x (marked ws))
insert_is_put x [] zero l p = refl
insert_is_put x [] (suc i) l p = absurd (omega (arith, l))
insert_is_put x (y ∷ ys) zero l p =
    rw (turned x y Greater (p.1 0 y (omega arith) (omega arith))) (ap (λ l. x ∷ y ∷ l) (sym (unmarked ys)))
insert_is_put x (y ∷ ys) (suc i) l p =
    rw (turned x y Less (p.0 0 y (omega arith) (omega arith)))
    (ap (λ l. y ∷ l) (insert_is_put x ys i (omega (arith, l)) (place_later x y ys i p)))

place_is_new : (x : Text) (ws : List Text) (i : ℕ) → i ≤ length ws → StrictlyAscends word_cmp ws →
    IsPlace x ws i → list_any (is_same x) ws ≡ false
place_is_new x [] i l s p = refl
place_is_new x (y ∷ ys) zero l s p =
    let e : word_cmp x y ≡ Less = turned x y Greater (p.1 0 y (omega arith) (omega arith)) in
    rw e (none_below x y ys e s.0)
place_is_new x (y ∷ ys) (suc i) l s p =
    rw (turned x y Less (p.0 0 y (omega arith) (omega arith)))
    (place_is_new x ys i (omega (arith, l)) s.1 (place_later x y ys i p))

-- what a binary search tells of a word that is not there
pub record IsNew (x : Text) (ws : List Text) (i : ℕ) : Type 0 where
  pub absent : list_any (is_same x) ws ≡ false
  pub set : insert ws i x ≡ set_of (x ∷ ws)

pub search_new : (slice ws : List Text) (x : Text) (i : ℕ) → slice ≡ ws → StrictlyAscends word_cmp ws →
    i ≤ length slice → (IsNonDecreasingBy (λ y. ordering_index (word_cmp y x)) slice → IsPlace x slice i) →
    IsNew x ws i
search_new slice ws x i e s l p =
    let here : IsPlace x slice i = p (rising x slice (rw e s)) in
    rw (← e) (record {
      absent = place_is_new x slice i l (rw e s) here;
      set = insert_is_put x slice i l here ∙ sym (set_of-put x slice (rw e s));
    })

-- a word that is there

tied_is_there : (x : Text) (ws : List Text) (i : ℕ) → i < length ws →
    HoldsAt (λ y. word_cmp y x ≡ Equal) ws i → list_any (is_same x) ws ≡ true
tied_is_there x [] i l h = absurd (omega (arith, l))
tied_is_there x (y ∷ ys) zero l h = rw (turned x y Equal (h y)) refl
tied_is_there x (y ∷ ys) (suc i) l h = elim (is_same x y) as (λ b. (b || list_any (is_same x) ys) ≡ true)
    [ true ↦ refl | false ↦ tied_is_there x ys i (omega (arith, l)) h ]

-- a word before the one that is there is below it
before_tied : (x y : Text) (ys : List Text) (i : ℕ) → i < length ys →
    AllByRecursion (λ z. word_cmp y z ≡ Less) ys → HoldsAt (λ z. word_cmp z x ≡ Equal) ys i →
    word_cmp x y ≡ Greater
before_tied x y ys i l s h =
    let z = slice_index_or ys i y in
    let down : word_cmp y z ≡ Less =
    All-from_recursion (λ z. word_cmp y z ≡ Less) ys s i y (omega (arith, l)) in
    let same : z ≡ x = same_words z x (h y) in
    turned x y Less (ap (word_cmp y) (sym same) ∙ down)

put_there : (x : Text) (ws : List Text) (i : ℕ) → i < length ws → StrictlyAscends word_cmp ws →
    HoldsAt (λ y. word_cmp y x ≡ Equal) ws i → keys (put word_cmp x x (marked ws)) ≡ ws
put_there x [] i l s h = absurd (omega (arith, l))
put_there x (y ∷ ys) zero l s h = rw (turned x y Equal (h y)) (ap (λ l. y ∷ l) (unmarked ys))
put_there x (y ∷ ys) (suc i) l s h =
    rw (before_tied x y ys i (omega (arith, l)) s.0 h)
    (ap (λ l. y ∷ l) (put_there x ys i (omega (arith, l)) s.1 h))

-- what a binary search tells of a word that is there
pub record IsThere (x : Text) (ws : List Text) : Type 0 where
  pub present : list_any (is_same x) ws ≡ true
  pub set : ws ≡ set_of (x ∷ ws)

pub search_old : (slice ws : List Text) (x : Text) (i : ℕ) → slice ≡ ws → StrictlyAscends word_cmp ws →
    i < length slice → HoldsAt (λ y. word_cmp y x ≡ Equal) slice i → IsThere x ws
search_old slice ws x i e s l h =
    rw (← e) (record {
      present = tied_is_there x slice i l h;
      set = sym (set_of-put x slice (rw e s) ∙ put_there x slice i l (rw e s) h);
    })

-- one word less

kept_above : (x : Text) (ws : List Text) → AllByRecursion (λ v. word_cmp x v ≡ Less) ws →
    filter (λ w. not (is_same x w)) ws ≡ ws
kept_above x [] h = refl
kept_above x (w ∷ ws) h = rw h.0 (ap (λ l. w ∷ l) (kept_above x ws h.1))

remove_is_filter : (x : Text) (ws : List Text) (i : ℕ) → i < length ws → StrictlyAscends word_cmp ws →
    HoldsAt (λ y. word_cmp y x ≡ Equal) ws i → remove ws i ≡ filter (λ w. not (is_same x w)) ws
remove_is_filter x [] i l s h = absurd (omega (arith, l))
remove_is_filter x (y ∷ ys) zero l s h =
    let same : y ≡ x = same_words y x (h y) in
    rw (turned x y Equal (h y))
    (sym (kept_above x ys (subst (λ z. AllByRecursion (λ v. word_cmp z v ≡ Less) ys) same s.0)))
remove_is_filter x (y ∷ ys) (suc i) l s h =
    rw (before_tied x y ys i (omega (arith, l)) s.0 h)
    (ap (λ l. y ∷ l) (remove_is_filter x ys i (omega (arith, l)) s.1 h))

-- what is not there is not taken out
pub kept_all : (x : Text) (ws : List Text) → list_any (is_same x) ws ≡ false →
    filter (λ w. not (is_same x w)) ws ≡ ws
kept_all x [] h = refl
kept_all x (w ∷ ws) h = let parts = or_parts (is_same x w) (list_any (is_same x) ws) h in
    rw parts.0 (ap (λ l. w ∷ l) (kept_all x ws parts.1))

pub search_removed : (slice ws : List Text) (x : Text) (i : ℕ) → slice ≡ ws →
    StrictlyAscends word_cmp ws → i < length slice → HoldsAt (λ y. word_cmp y x ≡ Equal) slice i →
    remove ws i ≡ filter (λ w. not (is_same x w)) ws
search_removed slice ws x i e s l h = rw (← e) (remove_is_filter x slice i l (rw e s) h)

marked-filter : (p : Text → Bool) (ws : List Text) →
    where_key word_cmp p (marked ws) ≡ marked (filter p ws)
marked-filter p [] = refl
marked-filter p (w ∷ ws) = elim (p w)
    as (λ b. cond b ((w, w) ∷ where_key word_cmp p (marked ws)) (where_key word_cmp p (marked ws))
    ≡ marked (cond b (w ∷ filter p ws) (filter p ws))) [
      | true ↦ ap (λ l. (w, w) ∷ l) (marked-filter p ws)
      | false ↦ marked-filter p ws
    ]

pub ascending-filter : (p : Text → Bool) (ws : List Text) → StrictlyAscends word_cmp ws →
    StrictlyAscends word_cmp (filter p ws)
ascending-filter p ws h = ascend_as_keys _ (from_T _ (subst (λ es. T (is_sorted word_cmp es))
    (marked-filter p ws) (is_sorted-where_key word_cmp p (marked ws) (to_T _ (keys_ascend ws h)))))

moved : (a b c : Bool) → ((a || b) || c) ≡ (b || (a || c))
moved true true c = refl
moved true false c = refl
moved false b c = refl

-- a word moves from the words that are left to the set
pub union_step : (x : Text) (ws rest : List Text) →
    set_of (set_of (x ∷ ws) ++ rest) ≡ set_of (ws ++ x ∷ rest)
union_step x ws rest = same_set _ _ (λ q.
    list_any-append (is_same q) (set_of (x ∷ ws)) rest
    ∙ ap (λ b. b || list_any (is_same q) rest) (any-set_of q (x ∷ ws))
    ∙ moved (is_same q x) (list_any (is_same q) ws) (list_any (is_same q) rest)
    ∙ sym (list_any-append (is_same q) ws (x ∷ rest)))

-- lists that ascend

below_later : (x y : Text) (ws : List Text) → word_cmp x y ≡ Less →
    AllByRecursion (λ w. word_cmp y w ≡ Less) ws → AllByRecursion (λ w. word_cmp x w ≡ Less) ws
below_later x y [] l h = tt
below_later x y (w ∷ ws) l h = (word_cmp_total.trans x y w l h.0, below_later x y ws l h.1)

-- the test for a set is what a set keeps
pub set_ascends : (ws : List Text) → ascends word_cmp ws ≡ true → StrictlyAscends word_cmp ws
set_ascends [] h = tt
set_ascends (x ∷ []) h = (tt, tt)
set_ascends (x ∷ (y ∷ ws)) h =
    let parts = and_parts _ _ h in
    let later = set_ascends (y ∷ ws) parts.1 in
    let down = less _ parts.0 in
    ((down, below_later x y ws down later.0), later)

-- the end of a union
pub union_done : (ws items all : List Text) (i : ℕ) → length items ≤ i → StrictlyAscends word_cmp ws →
    set_of (ws ++ drop i items) ≡ set_of all → ws ≡ set_of all
union_done ws items all i l s e =
    sym (set_of_ascending ws s)
    ∙ ap set_of (sym (append-nil ws) ∙ ap (λ rest. ws ++ rest) (sym (drop_all i items l))) ∙ e

pub union_next : (x : Text) (ws items new all : List Text) (i : ℕ) → i < length items →
    x ≡ get_or items i x → new ≡ set_of (x ∷ ws) → set_of (ws ++ drop i items) ≡ all →
    set_of (new ++ drop (i + 1) items) ≡ all
union_next x ws items new all i l is e h =
    ap (λ s. set_of (s ++ drop (i + 1) items)) e ∙ union_step x ws (drop (i + 1) items)
    ∙ ap (λ y. set_of (ws ++ y ∷ drop (i + 1) items)) is
    ∙ ap (λ l. set_of (ws ++ l)) (sym (drop_more items i x l)) ∙ h
