-- Lists in another order: how one is reached, and what stays. Lists without some items: what stays.
use Rattle.std.proofs.Common.{◌≡◌, ℕ, suc, ◌+◌, ◌≤◌, Bool, true, false, cond, ◌||◌, List, [], ◌∷◌, ◌++◌, length, map, filter, refl, ap, ◌∙◌, arith, true≢false, le_refl}
use Rattle.std.specs.List.{AllByRecursion, list_any, AllZip}
use Rattle.std.specs.Ordering.{eq_by_cmp}
use Rattle.std.specs.Cmp.{IsTotalOrder}
use Rattle.std.specs.declared.cmp.Ordering.{Ordering}
use Rattle.std.specs.FinMap.{find}
use Rattle.std.proofs.lemmas.Bool.{or_parts, or_from, false_from_ne_true, both_ways}
use Rattle.iloc_spec_grammar.specs.Syntax.{Text, word_cmp, is_same, lower, AllDifferent}
use Rattle.iloc_spec_grammar.specs.Meaning.{map_of, set_of}
use Rattle.iloc_spec_grammar.specs.Values.{Reordered, Without, WithoutRepeats}
use Rattle.iloc_spec_grammar.proofs.MapLaws.{map_of_same, word_cmp_total, same_words}
use Rattle.iloc_spec_grammar.proofs.SetLaws.{same_set}
use Rattle.std.proofs.lemmas.Map.Steps.{list_any_congr}

pub all_reordered : {X : Type 0} (P : X → Type 0) {xs ys : List X} → Reordered xs ys → AllByRecursion P xs →
    AllByRecursion P ys
all_reordered P Reordered.none h = tt
all_reordered P (Reordered.front_kept r) h = (h.0, all_reordered P r h.1)
all_reordered P Reordered.first_two h = (h.1.0, (h.0, h.1.1))
all_reordered P (Reordered.in_turn r s) h = all_reordered P s (all_reordered P r h)

pub map_reordered : {X Y : Type 0} (f : X → Y) {xs ys : List X} → Reordered xs ys →
    Reordered (map f xs) (map f ys)
map_reordered f Reordered.none = Reordered.none
map_reordered f (Reordered.front_kept r) = Reordered.front_kept (map_reordered f r)
map_reordered f Reordered.first_two = Reordered.first_two
map_reordered f (Reordered.in_turn r s) = Reordered.in_turn (map_reordered f r) (map_reordered f s)

pub itself : {X : Type 0} (xs : List X) → Reordered xs xs
itself [] = Reordered.none
itself (x ∷ xs) = Reordered.front_kept (itself xs)

pub turned : {X : Type 0} {xs ys : List X} → Reordered xs ys → Reordered ys xs
turned Reordered.none = Reordered.none
turned (Reordered.front_kept r) = Reordered.front_kept (turned r)
turned Reordered.first_two = Reordered.first_two
turned (Reordered.in_turn r s) = Reordered.in_turn (turned s) (turned r)

pub reordered_after : {X : Type 0} (zs : List X) {xs ys : List X} → Reordered xs ys →
    Reordered (xs ++ zs) (ys ++ zs)
reordered_after zs Reordered.none = itself zs
reordered_after zs (Reordered.front_kept r) = Reordered.front_kept (reordered_after zs r)
reordered_after zs Reordered.first_two = Reordered.first_two
reordered_after zs (Reordered.in_turn r s) = Reordered.in_turn (reordered_after zs r) (reordered_after zs s)

-- the first item behind a list that follows it
pub moved : {X : Type 0} (x : X) (xs ys : List X) → Reordered (x ∷ (xs ++ ys)) (xs ++ x ∷ ys)
moved x [] ys = itself (x ∷ ys)
moved x (z ∷ xs) ys = Reordered.in_turn Reordered.first_two (Reordered.front_kept (moved x xs ys))

pub first_last : {X : Type 0} (x : X) (xs : List X) → Reordered (x ∷ xs) (xs ++ x ∷ [])
first_last x [] = itself (x ∷ [])
first_last x (y ∷ xs) = Reordered.in_turn Reordered.first_two (Reordered.front_kept (first_last x xs))

pub length_reordered : {X : Type 0} {xs ys : List X} → Reordered xs ys → length xs ≡ length ys
length_reordered (Reordered.front_kept r) = ap suc (length_reordered r)
length_reordered (Reordered.in_turn r s) = length_reordered r ∙ length_reordered s
length_reordered _ = refl

pub filter_reordered : {X : Type 0} (test : X → Bool) {xs ys : List X} → Reordered xs ys →
    Reordered (filter test xs) (filter test ys)
filter_reordered test Reordered.none = Reordered.none
filter_reordered test (Reordered.front_kept {x = x} {xs = xs} {ys = ys} r) =
    at (test x) (filter_reordered test r)
  where
    at : (a : Bool) → Reordered (filter test xs) (filter test ys) →
        Reordered (cond a (x ∷ filter test xs) (filter test xs))
        (cond a (x ∷ filter test ys) (filter test ys))
    at true s = Reordered.front_kept s
    at false s = s
filter_reordered test (Reordered.first_two {x = x} {y = y} {xs = xs}) = at (test x) (test y)
  where
    at : (a b : Bool) →
        Reordered
        (cond a (x ∷ cond b (y ∷ filter test xs) (filter test xs))
        (cond b (y ∷ filter test xs) (filter test xs))) (cond b
        (y ∷ cond a (x ∷ filter test xs) (filter test xs)) (cond a (x ∷ filter test xs) (filter test xs)))
    at true true = Reordered.first_two
    at true false = itself (x ∷ filter test xs)
    at false b = itself (cond b (y ∷ filter test xs) (filter test xs))
filter_reordered test (Reordered.in_turn r s) =
    Reordered.in_turn (filter_reordered test r) (filter_reordered test s)

pub or_swap : (a b c : Bool) → (a || (b || c)) ≡ (b || (a || c))
or_swap true true c = refl
or_swap _ _ c = refl

pub any_reordered : {X : Type 0} (test : X → Bool) {xs ys : List X} → Reordered xs ys →
    list_any test xs ≡ list_any test ys
any_reordered test Reordered.none = refl
any_reordered test (Reordered.front_kept {x = x} r) = ap (λ b. test x || b) (any_reordered test r)
any_reordered test (Reordered.first_two {x = x} {y = y} {xs = xs}) =
    or_swap (test x) (test y) (list_any test xs)
any_reordered test (Reordered.in_turn r s) = any_reordered test r ∙ any_reordered test s

pub different_reordered : {X : Type 0} (R : X → X → Ordering) → IsTotalOrder R → {xs ys : List X} →
    Reordered xs ys → AllDifferent R xs → AllDifferent R ys
different_reordered R o Reordered.none h = tt
different_reordered R o (Reordered.front_kept {x = x} r) h =
    grind (arith, both_ways, any_reordered, false_from_ne_true, different_reordered R o r h.1)
different_reordered R o (Reordered.first_two {x = x} {y = y}) h =
    grind (arith, or_parts, false_from_ne_true, both_ways, or_from)
different_reordered R o (Reordered.in_turn r s) h = different_reordered R o s (different_reordered R o r h)

-- a test that holds of one of two that differ fails at the other
apart : {K : Type 0} (R : K → K → Ordering) → IsTotalOrder R → (q x y : K) → eq_by_cmp R x y ≡ false →
    eq_by_cmp R q x ≡ true → eq_by_cmp R q y ≡ false
apart R o q x y d t = grind arith

swap_conds : {A : Type 0} (a b : Bool) (x y z : A) → (a ≡ true → b ≡ false) →
    cond a x (cond b y z) ≡ cond b y (cond a x z)
swap_conds true true x y z h = absurd (true≢false (h refl))
swap_conds _ _ x y z h = refl

pub find_reordered : {K X : Type 0} (R : K → K → Ordering) → IsTotalOrder R → (q : K) →
    {es fs : List (K × X)} → Reordered es fs → AllDifferent R (map (λ e. e.0) es) → find R q es ≡ find R q fs
find_reordered R o q Reordered.none h = refl
find_reordered R o q (Reordered.front_kept {x = x} r) h = simp (find_reordered R o q r h.1)
find_reordered R o q (Reordered.first_two {x = x} {y = y}) h =
    grind (arith, swap_conds, apart, or_parts, false_from_ne_true)
find_reordered R o q (Reordered.in_turn r s) h =
    find_reordered R o q r h ∙ find_reordered R o q s (different_reordered R o (map_reordered (λ e. e.0) r) h)

-- a set has no order
pub set_of_reordered : {vs ws : List Text} → Reordered vs ws → set_of vs ≡ set_of ws
set_of_reordered r = same_set _ _ (λ q. any_reordered (is_same q) r)

-- the later of equal keys are never found

pub find_repeats : {X Y : Type 0} (key : X → Text) (value : X → Y) (q : Text) {seen : List Text}
    {xs ys : List X} →
    WithoutRepeats key seen xs ys → list_any (eq_by_cmp word_cmp q) seen ≡ false →
    find word_cmp q (map (λ x. (lower (key x), value x)) xs)
    ≡ find word_cmp q (map (λ x. (lower (key x), value x)) ys)
find_repeats key value q WithoutRepeats.none n = refl
find_repeats {X = X} {Y = Y} key value q (WithoutRepeats.stays {seen = seen} {x = x} {xs = xs} {ys = ys} r)
    n = grind (arith, or_from, find_repeats key value q r)
find_repeats key value q (WithoutRepeats.left_out {seen = seen} {x = x} {xs = xs} h r) n = grind
    (arith, word_cmp_total, false_from_ne_true, both_ways, list_any_congr, find_repeats key value q r n)

pub map_repeats : {X Y : Type 0} (key : X → Text) (value : X → Y) {xs ys : List X} →
    WithoutRepeats key [] xs ys →
    map_of word_cmp (map (λ x. (lower (key x), value x)) xs)
    ≡ map_of word_cmp (map (λ x. (lower (key x), value x)) ys)
map_repeats key value {xs = xs} {ys = ys} r =
    grind (arith, map_of_same, word_cmp_total, same_words, find_repeats)

pub all_repeats : {X : Type 0} (P : X → Type 0) (key : X → Text) {seen : List Text} {xs ys : List X} →
    WithoutRepeats key seen xs ys → AllByRecursion P xs → AllByRecursion P ys
all_repeats P key WithoutRepeats.none h = tt
all_repeats P key (WithoutRepeats.stays r) h = (h.0, all_repeats P key r h.1)
all_repeats P key (WithoutRepeats.left_out e r) h = all_repeats P key r h.1

pub all_without : {X : Type 0} (P : X → Type 0) (test : X → Bool) {xs ys : List X} → Without test xs ys →
    AllByRecursion P xs → AllByRecursion P ys
all_without P test Without.none h = tt
all_without P test (Without.stays r) h = (h.0, all_without P test r h.1)
all_without P test (Without.left_out e r) h = all_without P test r h.1

-- a filter that drops what passes the test doesn't see what was left out
pub filter_without : {X : Type 0} (test keep : X → Bool) → ((x : X) → test x ≡ true → keep x ≡ false) →
    {xs ys : List X} → Without test xs ys → filter keep xs ≡ filter keep ys
filter_without test keep f Without.none = refl
filter_without test keep f (Without.stays {x = x} r) = simp (filter_without test keep f r)
filter_without test keep f (Without.left_out {x = x} {xs = xs} e r) =
    grind (arith, filter_without test keep f r)

-- sums over the items

abbrev pub total : {X : Type 0} → (X → ℕ) → List X → ℕ
total f [] = 0
total f (x ∷ xs) = f x + total f xs

pub total-append : {X : Type 0} (f : X → ℕ) (xs ys : List X) → total f (xs ++ ys) ≡ total f xs + total f ys
total-append f [] ys = omega arith
total-append f (x ∷ xs) ys = let e = total-append f xs ys in omega arith

pub total_reordered : {X : Type 0} (f : X → ℕ) {xs ys : List X} → Reordered xs ys → total f ys ≡ total f xs
total_reordered f Reordered.none = refl
total_reordered f (Reordered.front_kept {x = x} r) = ap (λ n. f x + n) (total_reordered f r)
total_reordered f Reordered.first_two = omega arith
total_reordered f (Reordered.in_turn r s) = total_reordered f s ∙ total_reordered f r

pub total_without : {X : Type 0} (f : X → ℕ) (test : X → Bool) {xs ys : List X} → Without test xs ys →
    total f ys ≤ total f xs
total_without f test Without.none = le_refl 0
total_without f test (Without.stays r) = let l = total_without f test r in omega arith
total_without f test (Without.left_out e r) = let l = total_without f test r in omega arith

pub total_repeats : {X : Type 0} (f : X → ℕ) (key : X → Text) {seen : List Text} {xs ys : List X} →
    WithoutRepeats key seen xs ys → total f ys ≤ total f xs
total_repeats f key WithoutRepeats.none = le_refl 0
total_repeats f key (WithoutRepeats.stays r) = let l = total_repeats f key r in omega arith
total_repeats f key (WithoutRepeats.left_out e r) = let l = total_repeats f key r in omega arith

pub total_zip : {X : Type 0} (f : X → ℕ) (R : X → X → Type 0) → ((x y : X) → R x y → f y ≤ f x) →
    (xs ys : List X) → AllZip R xs ys → total f ys ≤ total f xs
total_zip f R g [] [] z = le_refl 0
total_zip f R g (x ∷ xs) (y ∷ ys) z = grind (arith, total_zip f R g xs ys z.1)
total_zip f R g _ _ z = absurd z
