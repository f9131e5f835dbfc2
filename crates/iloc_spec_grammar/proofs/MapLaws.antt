-- The map of a list of entries, and the set of a list of words.
use Rattle.std.proofs.Common.{arith, ◌≡◌, Bool, true, false, cond, T, List, [], ◌∷◌, map, refl, sym, ap, ◌∙◌, Some, true≢false}
use Rattle.std.specs.List.{AllByRecursion, list_any}
use Rattle.std.specs.Ordering.{is_lt, is_eq, eq_by_cmp}
use Rattle.std.specs.declared.cmp.Ordering.{Ordering}
use Rattle.std.specs.declared.cmp.Ordering.TheVariants.{Less, Equal, Greater}
use Rattle.std.specs.Cmp.{IsTotalOrder, Equal-is, tied_itself}
use Rattle.std.specs.Cmp.Lexicographic.{nat_list_cmp_total}
use Rattle.std.specs.FinMap.{put, find, is_sorted, IsAntisymmetric, nat_cmp-IsAntisymmetric, slice_cmp-IsAntisymmetric}
use Rattle.std.specs.FinMap.Entries.{below_all, is_sorted-put, find-put, same_entries}
use Rattle.std.proofs.lemmas.Bool.{and_parts, both_ways}
use Rattle.iloc_spec_grammar.specs.Syntax.{Text, word_cmp, is_same, AllDifferent}
use Rattle.iloc_spec_grammar.specs.Meaning.{map_of}
use Rattle.std.proofs.lemmas.Float.{T_from_true}

pub word_cmp_total : IsTotalOrder word_cmp
word_cmp_total = nat_list_cmp_total

pub same_words : (v w : Text) → word_cmp v w ≡ Equal → v ≡ w
same_words = slice_cmp-IsAntisymmetric nat_cmp-IsAntisymmetric

pub from_T : (b : Bool) → T b → b ≡ true
from_T true h = refl
from_T false h = absurd h

pub to_T : (b : Bool) → b ≡ true → T b
to_T = T_from_true

pub less : (o : Ordering) → is_lt o ≡ true → o ≡ Less
less Less p = refl
less Equal p = absurd (true≢false (sym p))
less Greater p = absurd (true≢false (sym p))

module _ {K X : Type 0} (R : K → K → Ordering) where
  put_first : (k : K) (v : X) (es : List (K × X)) → below_all R k es ≡ true → put R k v es ≡ (k, v) ∷ es
  put_first k v [] h = refl
  put_first k v (e ∷ es) h = grind (arith, less, and_parts)

  -- a list in order is its own map
  pub map_of_sorted : (es : List (K × X)) → is_sorted R es ≡ true → map_of R es ≡ es
  map_of_sorted [] h = refl
  map_of_sorted (e ∷ es) h = let parts = and_parts _ _ h in grind (arith, map_of_sorted es parts.1, put_first)

  module _ (o : IsTotalOrder R) where
    pub sorted-map_of : (es : List (K × X)) → T (is_sorted R (map_of R es))
    sorted-map_of [] = tt
    sorted-map_of (e ∷ es) = is_sorted-put R o e.0 e.1 (map_of R es) (sorted-map_of es)

    pub is_sorted-map_of : (es : List (K × X)) → is_sorted R (map_of R es) ≡ true
    is_sorted-map_of es = from_T _ (sorted-map_of es)

    pub find-map_of : (q : K) (es : List (K × X)) → find R q (map_of R es) ≡ find R q es
    find-map_of q [] = refl
    find-map_of q (e ∷ es) =
        find-put R o q e.0 e.1 (map_of R es) ∙ ap (cond (eq_by_cmp R q e.0) (Some e.1)) (find-map_of q es)

    -- lists that answer alike have one map
    pub map_of_same : IsAntisymmetric R → (es fs : List (K × X)) → ((q : K) → find R q es ≡ find R q fs) →
        map_of R es ≡ map_of R fs
    map_of_same same es fs is = same_entries R o same _ _ (sorted-map_of es) (sorted-map_of fs)
        (λ q. find-map_of q es ∙ is q ∙ sym (find-map_of q fs))

  -- a fact of each entry stays with the map
  pub all-put : IsAntisymmetric R → (P : K × X → Type 0) (k : K) (v : X) (es : List (K × X)) → P (k, v) →
      AllByRecursion P es → AllByRecursion P (put R k v es)
  all-put same P k v [] p h = (p, tt)
  all-put same P k v (e ∷ es) p h = grind (arith, all-put same P k v es p h.1)

  pub all-map_of : IsAntisymmetric R → (P : K × X → Type 0) (es : List (K × X)) → AllByRecursion P es →
      AllByRecursion P (map_of R es)
  all-map_of same P [] h = tt
  all-map_of same P (e ∷ es) h = search (all-put, all-map_of same P es h.1)

  -- the keys of a list in order differ
  below_differs : (k : K) (es : List (K × X)) → below_all R k es ≡ true →
      list_any (eq_by_cmp R k) (map (λ e. e.0) es) ≡ false
  below_differs k [] h = refl
  below_differs k (e ∷ es) h = let parts = and_parts _ _ h in grind (arith, below_differs k es parts.1)

  pub sorted_different : (es : List (K × X)) → is_sorted R es ≡ true → AllDifferent R (map (λ e. e.0) es)
  sorted_different [] h = tt
  sorted_different (e ∷ es) h =
      let parts = and_parts _ _ h in (both_ways _ (below_differs e.0 es parts.0), sorted_different es parts.1)

-- words that are the same

pub same_itself : (w : Text) → is_same w w ≡ true
same_itself w = ap is_eq (tied_itself word_cmp_total w)

pub same_is : (v w : Text) → is_same v w ≡ true → v ≡ w
same_is v w e = same_words v w ((Equal-is (word_cmp v w)).0 e)
