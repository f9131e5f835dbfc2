-- Maps of lists, and sets of lists of words: what they hold, how long they are, and lists one after the
-- other.
use Rattle.std.proofs.Common.{◌≡◌, ◌+◌, ◌≤◌, true, false, cond, List, [], ◌∷◌, ◌++◌, length, map, refl, sym, ap, ap₂, ◌∙◌, arith, Some, None, Bool, ◌&&◌}
use Rattle.std.specs.Prelude.{is_some}
use Rattle.std.specs.Option.{option_or}
use Rattle.std.specs.List.{list_any}
use Rattle.std.specs.declared.cmp.Ordering.{Ordering}
use Rattle.std.specs.Cmp.{IsTotalOrder}
use Rattle.std.specs.FinMap.{find, is_sorted, IsAntisymmetric}
use Rattle.std.specs.FinMap.Entries.{below_all, is_some-find, length-put}
use Rattle.std.proofs.lemmas.List.{length-map}
use Rattle.std.proofs.lemmas.List.Folds.{list_any-append}
use Rattle.iloc_spec_grammar.specs.Syntax.{Text, word_cmp, is_same, AllDifferent}
use Rattle.iloc_spec_grammar.specs.Meaning.{map_of, set_of}
use Rattle.iloc_spec_grammar.proofs.MapLaws.{word_cmp_total, same_words, find-map_of, sorted-map_of, map_of_same, same_is}
use Rattle.iloc_spec_grammar.proofs.ValuesLaws.{unmarked}
use Rattle.std.proofs.lemmas.Bool.{cond_both, false_from_ne_true}

module _ {K X : Type 0} (R : K → K → Ordering) where
  -- what is found in two lists, one after the other
  pub find-append : (q : K) (es fs : List (K × X)) →
      find R q (es ++ fs) ≡ option_or (find R q es) (find R q fs)
  find-append q [] fs = refl
  find-append q (e ∷ es) fs = grind (arith, find-append q es fs)

  -- the map of a map and more is that of the lists
  pub map_of-first : IsTotalOrder R → IsAntisymmetric R → (es fs : List (K × X)) →
      map_of R (map_of R es ++ fs) ≡ map_of R (es ++ fs)
  map_of-first o same es fs = search (map_of_same, find-append, find-map_of)

  pub map_of-last : IsTotalOrder R → IsAntisymmetric R → (es fs : List (K × X)) →
      map_of R (es ++ map_of R fs) ≡ map_of R (es ++ fs)
  map_of-last o same es fs = search (map_of_same, find-append, find-map_of)

-- sets as maps of each word to itself

abbrev pub marked : List Text → List (Text × Text)
marked ws = map (λ w. (w, w)) ws

abbrev pub keys : List (Text × Text) → List Text
keys es = map (λ e. e.0) es

-- whether entries ascend rests on their keys
below-keys : (w : Text) (es : List (Text × Text)) →
    below_all word_cmp w (marked (keys es)) ≡ below_all word_cmp w es
below-keys w [] = refl
below-keys w (e ∷ es) = simp (below-keys w es)

pub sorted-keys : (es : List (Text × Text)) → is_sorted word_cmp (marked (keys es)) ≡ is_sorted word_cmp es
sorted-keys [] = refl
sorted-keys (e ∷ es) = ap₂ ◌&&◌ (below-keys e.0 es) (sorted-keys es)

-- a word that is found is found as itself
find-marked : (q : Text) (ws : List Text) →
    find word_cmp q (marked ws) ≡ cond (list_any (is_same q) ws) (Some q) None
find-marked q [] = refl
find-marked q (w ∷ ws) = by (is_same q w) refl (find-marked q ws)
  where
    by : (b : Bool) → is_same q w ≡ b →
        find word_cmp q (marked ws) ≡ cond (list_any (is_same q) ws) (Some q) None →
        find word_cmp q (marked (w ∷ ws)) ≡ cond (list_any (is_same q) (w ∷ ws)) (Some q) None
    by true e h = rw e (ap Some (sym (same_is q w e)))
    by false e h = rw e h

-- lists with the same words have one set
pub same_set : (vs ws : List Text) → ((q : Text) → list_any (is_same q) vs ≡ list_any (is_same q) ws) →
    set_of vs ≡ set_of ws
same_set vs ws h = grind (arith, map_of_same, word_cmp_total, same_words, find-marked)

-- a word is in the set where it is in the list
pub any-set_of : (w : Text) (ws : List Text) →
    list_any (is_same w) (set_of ws) ≡ list_any (is_same w) ws
any-set_of w ws =
    sym (is_some-find word_cmp w (map_of word_cmp (marked ws)))
    ∙ ap is_some (find-map_of word_cmp word_cmp_total w (marked ws))
    ∙ is_some-find word_cmp w (marked ws)
    ∙ ap (list_any (is_same w)) (unmarked ws)

-- the set of a set and more is that of the lists
pub set_of-first : (vs ws : List Text) → set_of (set_of vs ++ ws) ≡ set_of (vs ++ ws)
set_of-first vs ws = search (same_set, list_any-append, any-set_of)

pub set_of-last : (vs ws : List Text) → set_of (vs ++ set_of ws) ≡ set_of (vs ++ ws)
set_of-last vs ws = search (same_set, list_any-append, any-set_of)

pub set_of-set_of : (ws : List Text) → set_of (set_of ws) ≡ set_of ws
set_of-set_of ws = set_of-last [] ws

-- lengths: a word that is there adds nothing, another adds one

length-keys : (ws : List Text) → length (set_of ws) ≡ length (map_of word_cmp (marked ws))
length-keys ws = length-map (map_of word_cmp (marked ws)) _

pub length-set_of-cons : (w : Text) (ws : List Text) →
    length (set_of (w ∷ ws)) ≡ cond (list_any (is_same w) ws) (length (set_of ws)) (length (set_of ws) + 1)
length-set_of-cons w ws =
    length-keys (w ∷ ws)
    ∙ length-put word_cmp word_cmp_total w w (map_of word_cmp (marked ws))
    (sorted-map_of word_cmp word_cmp_total (marked ws))
    ∙ ap (λ b. cond b (length (map_of word_cmp (marked ws))) (length (map_of word_cmp (marked ws)) + 1))
    (ap is_some (find-map_of word_cmp word_cmp_total w (marked ws)) ∙ is_some-find word_cmp w (marked ws)
    ∙ ap (list_any (is_same w)) (unmarked ws))
    ∙ ap (λ n. cond (list_any (is_same w) ws) n (n + 1)) (sym (length-keys ws))

pub length-set_of : (ws : List Text) → length (set_of ws) ≤ length ws
length-set_of [] = omega arith
length-set_of (w ∷ ws) = grind (arith, length-set_of-cons, cond_both, length-set_of ws)

-- different words are as many in their set
pub length-set_of-different : (ws : List Text) → AllDifferent word_cmp ws → length (set_of ws) ≡ length ws
length-set_of-different [] d = refl
length-set_of-different (w ∷ ws) d =
    grind (arith, length-set_of-cons, false_from_ne_true, length-set_of-different ws d.1)
