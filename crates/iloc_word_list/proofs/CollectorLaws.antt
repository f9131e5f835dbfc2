-- Words that are collected: the lengths of their sets, and what a sort leaves.
use Rattle.std.proofs.Common.{◌≡◌, ℕ, suc, ◌+◌, ◌<◌, ◌≤◌, Bool, true, false, cond, not, ◌||◌, List, [], ◌∷◌, ◌++◌, length, refl, sym, ap, ◌∙◌, subst, arith, rules, true≢false, nat_eq}
use Rattle.std.specs.Prelude.{insert, Result, Ok, Err, IfOk, OnErr}
use Rattle.std.specs.Cmp.Lexicographic.{pointwise}
use Rattle.std.specs.Cmp.{Equal-is}
use Rattle.std.specs.Cmp.Rules.{comparing}
use Rattle.std.specs.List.{list_any, dedup, dedup_from}
use Rattle.std.specs.List.Sorted.{IsPermutation, IsSorted, IsStrictlySortedBy}
use Rattle.std.specs.Ordering.{is_lt, is_eq, eq_by_cmp}
use Rattle.std.specs.declared.cmp.Ordering.{Ordering}
use Rattle.std.specs.declared.cmp.Ordering.TheVariants.{Less, Equal, Greater}
use Rattle.std.specs.FinMap.{put}
use Rattle.std.proofs.lemmas.Bool.{and_from, or_parts, both_ways}
use Rattle.std.proofs.lemmas.List.Sorted.{IsPermutation-refl, IsPermutation-sym, IsPermutation-cons, IsPermutation-trans, IsPermutation-middle, IsPermutation-to_front, list_any-IsPermutation}
use Rattle.std.proofs.lemmas.List.Edits.{insert_end}
use Rattle.std.proofs.lemmas.List.Kept.{IsStrictlySortedBy-dedup}
use Rattle.iloc_spec_grammar.specs.Syntax.{Text, word_cmp, is_same, AllDifferent}
use Rattle.iloc_spec_grammar.specs.Meaning.{map_of, set_of}
use Rattle.iloc_spec_grammar.specs.Values.{StrictlyAscends}
use Rattle.iloc_spec_grammar.proofs.MapLaws.{word_cmp_total, same_words}
use Rattle.iloc_spec_grammar.proofs.SetLaws.{marked, keys, same_set, set_of-set_of, length-set_of-cons, length-set_of}
use Rattle.iloc_spec_grammar.proofs.ValuesLaws.{set_of_ascending}
use Rattle.iloc_spec_grammar.proofs.WellRead.{set_of-ascending}
use Rattle.iloc_word_list.specs.Ascending.{ascends}
use Rattle.iloc_word_list.specs.TakingIn.{TakesIn}
use Rattle.iloc_word_list.proofs.SetLaws.{set_ascends}

-- how long sets are

-- words more make no shorter set
pub set_grows : (w : Text) (ws : List Text) → length (set_of ws) ≤ length (set_of (w ∷ ws))
set_grows w ws = grind (arith, length-set_of-cons w ws)

-- a set that is as long as the list: all words differ
pub differ : (ws : List Text) → length (set_of ws) ≡ length ws → AllDifferent word_cmp ws
differ [] e = tt
differ (w ∷ ws) e =
    by (list_any (is_same w) ws) (sym e ∙ length-set_of-cons w ws) (length-set_of ws) (differ ws)
  where
    by : (b : Bool) → suc (length ws) ≡ cond b (length (set_of ws)) (length (set_of ws) + 1) →
        length (set_of ws) ≤ length ws → (length (set_of ws) ≡ length ws → AllDifferent word_cmp ws) →
        (b ≡ true → ⊥) × AllDifferent word_cmp ws
    by true e l more = absurd (omega (arith, e, l))
    by false e l more = (both_ways _ refl, more (omega (arith, e)))

-- the same words in another order have the same set
pub permuted_set : (vs ws : List Text) → IsPermutation vs ws → set_of vs ≡ set_of ws
permuted_set vs ws p = same_set vs ws (λ q. list_any-IsPermutation (is_same q) vs ws p)

-- a word that is there makes no other set
pub known_set : (w : Text) (ws : List Text) → list_any (is_same w) ws ≡ true →
    set_of (w ∷ ws) ≡ set_of ws
known_set w ws h = same_set (w ∷ ws) ws (λ q. by q (is_same q w) refl)
  where
    by : (q : Text) (b : Bool) → is_same q w ≡ b →
        (is_same q w || list_any (is_same q) ws) ≡ list_any (is_same q) ws
    by q true e = rw (e, same_words q w ((Equal-is _).0 e), h) refl
    by q false e = rw e refl

-- one word more in a set

swapped : (v w : Text) (ws : List Text) → IsPermutation (v ∷ w ∷ ws) (w ∷ v ∷ ws)
swapped v w ws = IsPermutation-middle (v ∷ []) w ws

put_permutes : (w : Text) (es : List (Text × Text)) → list_any (is_same w) (keys es) ≡ false →
    IsPermutation (w ∷ keys es) (keys (put word_cmp w w es))
put_permutes w [] h = IsPermutation-refl (w ∷ [])
put_permutes w (e ∷ es) h = by (word_cmp w e.0) refl (put_permutes w es (or_parts _ _ h).1)
  where
    by : (o : Ordering) → word_cmp w e.0 ≡ o →
        IsPermutation (w ∷ keys es) (keys (put word_cmp w w es)) →
        IsPermutation (w ∷ e.0 ∷ keys es) (keys (put word_cmp w w (e ∷ es)))
    by Less l more = rw l (IsPermutation-refl (w ∷ e.0 ∷ keys es))
    by Equal l more = absurd (true≢false (sym (ap is_eq l) ∙ (or_parts _ _ h).0))
    by Greater l more =
        rw l (IsPermutation-trans _ _ _ (swapped w e.0 (keys es)) (IsPermutation-cons e.0 _ _ more))

-- a new word that is put in a set is one word more
pub put_in : (w : Text) (ws : List Text) → StrictlyAscends word_cmp ws →
    list_any (is_same w) ws ≡ false → IsPermutation (w ∷ ws) (set_of (w ∷ ws))
put_in w ws up new =
    let es = map_of word_cmp (marked ws) in
    let same : keys es ≡ ws = set_of_ascending ws up in
    subst (λ vs. IsPermutation (w ∷ vs) (set_of (w ∷ ws))) same
    (put_permutes w es (ap (list_any (is_same w)) same ∙ new))

-- what a set's own answer says
pub taken_in : (added : Bool) (w : Text) (ws new : List Text) → StrictlyAscends word_cmp ws →
    added ≡ not (list_any (is_same w) ws) → new ≡ set_of (w ∷ ws) → TakesIn w ws new added
taken_in added w ws new up a e = by (list_any (is_same w) ws) refl
  where
    by : (b : Bool) → list_any (is_same w) ws ≡ b → TakesIn w ws new added
    by true h = rw (a, h) (h, e ∙ known_set w ws h ∙ set_of_ascending ws up)
    by false h = rw (a, h) (subst (IsPermutation (w ∷ ws)) (sym e) (put_in w ws up h))

-- what an answer of a collector says

pub known_there : (w : Text) (ws new : List Text) (added : Bool) → TakesIn w ws new added →
    added ≡ false → list_any (is_same w) ws ≡ true
known_there w ws new true t e = cc
known_there w ws new false t e = t.0

pub one_more : (w : Text) (ws new : List Text) (added : Bool) → TakesIn w ws new added → added ≡ true →
    IsPermutation (w ∷ ws) new
one_more w ws new true t e = t
one_more w ws new false t e = cc

-- either way the words have the set of all
pub set_taken : (w : Text) (ws new : List Text) (added : Bool) → TakesIn w ws new added →
    set_of new ≡ set_of (w ∷ ws)
set_taken w ws new true t = sym (permuted_set (w ∷ ws) new t)
set_taken w ws new false t = ap set_of t.1 ∙ sym (known_set w ws t.0)

-- what is kept where an answer is a refusal
pub on_err : {T E : Type 0} (r : Result T E) (P : Type 0) → P → OnErr r P
on_err (Ok x) P p = tt
on_err (Err e) P p = p

-- the fifth word

pub one_longer : (w : Text) (ws : List Text) → StrictlyAscends word_cmp ws →
    list_any (is_same w) ws ≡ false → length (set_of (w ∷ ws)) ≡ length ws + 1
one_longer w ws up new =
    length-set_of-cons w ws ∙ ap (λ b. cond b (length (set_of ws)) (length (set_of ws) + 1)) new
    ∙ ap (λ vs. length vs + 1) (set_of_ascending ws up)

pub five : (w : Text) (ws words : List Text) → StrictlyAscends word_cmp ws → 4 ≤ length ws →
    list_any (is_same w) ws ≡ false → words ≡ set_of (w ∷ ws) →
    (4 < length (set_of words)) × (true ≡ true → StrictlyAscends word_cmp words)
five w ws words up l new e =
    let longer = one_longer w ws up new in
    let same = ap (λ vs. length (set_of vs)) e ∙ ap length (set_of-set_of (w ∷ ws)) in (
      omega (arith, l, longer, same),
      λ _. subst (StrictlyAscends word_cmp) (sym e) (set_of-ascending (w ∷ ws)),
    )

-- more words

pub many_after : {E : Type 0} (r : Result Bool E) (w : Text) (ws new : List Text) →
    4 < length (set_of ws) → IfOk r (TakesIn w ws new) → OnErr r (new ≡ ws) → 4 < length (set_of new)
many_after (Ok b) w ws new l t err = omega (arith, l, set_grows w ws, ap length (set_taken w ws new b t))
many_after (Err e) w ws new l t err = subst (λ vs. 4 < length (set_of vs)) (sym err) l

pub put_last : (w : Text) (ws : List Text) → IsPermutation (w ∷ ws) (ws ++ w ∷ [])
put_last w ws = IsPermutation-sym _ _ (IsPermutation-to_front ws w)

pub last_ascends : (w : Text) (ws new : List Text) (at : ℕ) → insert ws at w ≡ set_of (w ∷ ws) →
    at ≡ length ws → new ≡ ws ++ w ∷ [] → StrictlyAscends word_cmp new
last_ascends w ws new at e l is =
    subst (StrictlyAscends word_cmp) (sym (is ∙ sym (insert_end ws w) ∙ ap (λ i. insert ws i w) (sym l) ∙ e))
    (set_of-ascending (w ∷ ws))

-- what is sorted, each word once

strictly : (ws : List Text) → IsStrictlySortedBy word_cmp ws → ascends word_cmp ws ≡ true
unfolding IsStrictlySortedBy
strictly [] h = refl
strictly (v ∷ []) h = refl
strictly (v ∷ (w ∷ ws)) h = and_from _ _ (ap is_lt h.0.0) (strictly (w ∷ ws) h.1)

any-dedup_from : (p : Text → Bool) (same : Text → Text → Bool) →
    ((v w : Text) → same v w ≡ true → v ≡ w) → (k : Text) (ws : List Text) →
    list_any p (dedup_from same k ws) ≡ (p k || list_any p ws)
any-dedup_from p same is k [] = refl
any-dedup_from p same is k (w ∷ ws) =
    by (same w k) refl (any-dedup_from p same is k ws) (any-dedup_from p same is w ws)
  where
    twice : (a b : Bool) → (a || b) ≡ (a || (a || b))
    twice true b = refl
    twice false b = refl

    by : (b : Bool) → same w k ≡ b → list_any p (dedup_from same k ws) ≡ (p k || list_any p ws) →
        list_any p (dedup_from same w ws) ≡ (p w || list_any p ws) →
        list_any p (dedup_from same k (w ∷ ws)) ≡ (p k || (p w || list_any p ws))
    by true h first later = rw (h, is w k h) (first ∙ twice (p k) (list_any p ws))
    by false h first later = rw h (ap (λ b. p k || b) later)

any-dedup : (p : Text → Bool) (same : Text → Text → Bool) → ((v w : Text) → same v w ≡ true → v ≡ w) →
    (ws : List Text) → list_any p (dedup same ws) ≡ list_any p ws
any-dedup p same is [] = refl
any-dedup p same is (w ∷ ws) = any-dedup_from p same is w ws

-- what ascends passes the test for a set
pub ascending : (ws : List Text) → StrictlyAscends word_cmp ws → ascends word_cmp ws ≡ true
ascending [] h = refl
ascending (v ∷ []) h = refl
ascending (v ∷ (w ∷ ws)) h = and_from _ _ (ap is_lt h.0.0) (ascending (w ∷ ws) h.1)

-- the words in order, each once: they ascend, and are the set
pub record IsSetOf (ws set : List Text) : Type 0 where
  pub ascend : ascends word_cmp set ≡ true
  pub is : set ≡ set_of ws

ties : (v w : Text) → pointwise nat_eq v w ≡ eq_by_cmp word_cmp v w
ties v w = search (comparing, rules)

pub sorted_out : (ws sorted set : List Text) → IsPermutation ws sorted → IsSorted word_cmp sorted →
    set ≡ dedup (pointwise nat_eq) sorted → IsSetOf ws set
sorted_out ws sorted set p up e =
    let ascend : ascends word_cmp set ≡ true =
    ap (ascends word_cmp) e ∙ strictly _ (IsStrictlySortedBy-dedup word_cmp_total ties sorted up) in
    record {
      ascend = ascend;
      is = sym (set_of_ascending set (set_ascends set ascend))
          ∙ same_set set ws (λ q. ap (list_any (is_same q)) e
          ∙ any-dedup (is_same q) (pointwise nat_eq)
          (λ v w h. same_words v w ((Equal-is _).0 (sym (ties v w) ∙ h))) sorted
          ∙ sym (list_any-IsPermutation (is_same q) ws sorted p));
    }

pub in_order : (ws : List Text) → StrictlyAscends word_cmp ws → IsSetOf ws ws
in_order ws up = record { ascend = ascending ws up; is = sym (set_of_ascending ws up) }
