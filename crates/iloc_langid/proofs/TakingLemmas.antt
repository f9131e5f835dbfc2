-- Variants that are taken one at a time.
use Rattle.iloc_spec_grammar.proofs.FaultLaws.{some_repeat}
use Rattle.std.proofs.Common.{◌≡◌, ℕ, ◌+◌, ◌<◌, ◌≤◌, Bool, true, false, not, List, [], ◌∷◌, ◌++◌, length, map, refl, sym, ap, ◌∙◌, subst, arith, append_assoc, append-nil, length-append, Some, None, option_map}
use Rattle.std.specs.Prelude.{Result, Ok, Err}
use Rattle.std.specs.List.{AllByRecursion, list_any}
use Rattle.std.specs.List.Sorted.{IsPermutation}
use Rattle.std.proofs.lemmas.List.{map-append, length-map}
use Rattle.std.proofs.lemmas.List.Sorted.{IsPermutation-refl, IsPermutation-sym, IsPermutation-push_more, IsPermutation-append_left, length_permutation, list_any-IsPermutation}
use Rattle.iloc_spec_grammar.specs.Syntax.{Text, Variant, is_word, IsWord, normal, lower, word_cmp, is_same, AllDifferent}
use Rattle.iloc_spec_grammar.specs.Meaning.{set_of}
use Rattle.iloc_spec_grammar.specs.Values.{IsNormal, StrictlyAscends}
use Rattle.iloc_spec_grammar.specs.Reading.{EndsBefore, take_first, skip_first, passing, past}
use Rattle.iloc_spec_grammar.proofs.MapLaws.{word_cmp_total}
use Rattle.iloc_spec_grammar.proofs.Orders.{turned, first_last, different_reordered}
use Rattle.iloc_spec_grammar.proofs.SetLaws.{length-set_of, length-set_of-different}
use Rattle.iloc_spec_grammar.proofs.ReadWords.{IsNormal-normal}
use Rattle.iloc_spec_grammar.proofs.ValuesLaws.{set_of_ascending}
use Rattle.iloc_spec_grammar.proofs.WellRead.{set_of-ascending, all-set_of}
use Rattle.iloc_subtags.proofs.TakingLemmas.{took, took_none}
use Rattle.iloc_word_list.proofs.CollectorLaws.{permuted_set, differ, taken_in, known_there, one_more}
use Rattle.iloc_subtags.specs.declared.parse_error.ParseError.{ParseError}
use Rattle.iloc_subtags.specs.declared.parse_error.ParseError.TheVariants.{InvalidLanguage, InvalidSubtag, InvalidExtension, DuplicatedExtension, OutOfMemory}
use Rattle.iloc_langid.specs.Reads.{VariantsReads}
use Rattle.iloc_langid.proofs.LowercaseLemmas.{lower-variants}

-- of the variants before, those up to now are taken, as these words
pub record Taking (before now words : List Text) : Type 0 where
  pub taken : List Text
  pub keeps : passing (is_word Variant) before ≡ taken ++ passing (is_word Variant) now
  pub skips : past (is_word Variant) before ≡ past (is_word Variant) now
  pub permutes : IsPermutation (map lower taken) words

pub taking_none : (ps : List Text) → Taking ps ps []
taking_none ps = grind arith

map-last : (xs : List Text) (p : Text) → map lower (xs ++ p ∷ []) ≡ map lower xs ++ lower p ∷ []
map-last xs p = map-append lower xs (p ∷ [])

module _ (before now words : List Text) (t : Taking before now words) (p : Text) (h : IsWord Variant p)
    (later : List Text) (e : now ≡ p ∷ later) where
  keeps_more : passing (is_word Variant) before ≡ t.taken ++ p ∷ passing (is_word Variant) later
  keeps_more = grind arith

  pub taking_one_more : (more : List Text) → IsPermutation (lower p ∷ words) more →
      Taking before later more
  taking_one_more more m = record {
    taken = t.taken ++ p ∷ [];
    keeps = keeps_more ∙ sym (append_assoc t.taken (p ∷ []) (passing (is_word Variant) later));
    skips = t.skips ∙ ap (past (is_word Variant)) e ∙ rw h refl;
    permutes = subst (λ vs. IsPermutation vs more) (sym (map-last t.taken p))
        (IsPermutation-push_more (map lower t.taken) words more (lower p) t.permutes m);
  }

  pub repeats : list_any (is_same (lower p)) words ≡ true →
      ¬ (AllDifferent word_cmp (map lower (passing (is_word Variant) before)))
  repeats old d =
      let whole : map lower (passing (is_word Variant) before)
      ≡ (map lower t.taken ++ lower p ∷ []) ++ map lower (passing (is_word Variant) later) =
      ap (map lower) (keeps_more ∙ sym (append_assoc t.taken (p ∷ []) (passing (is_word Variant) later)))
      ∙ map-append lower (t.taken ++ p ∷ []) (passing (is_word Variant) later)
      ∙ ap (λ l. l ++ map lower (passing (is_word Variant) later)) (map-last t.taken p) in
      let first = some_repeat word_cmp _ _ (subst (AllDifferent word_cmp) whole d) in
      let front =
      different_reordered word_cmp word_cmp_total (turned (first_last (lower p) (map lower t.taken))) first in
      front.0 (list_any-IsPermutation (is_same (lower p)) (map lower t.taken) words t.permutes ∙ old)

not_fewer : (m n : ℕ) → (m < n → ⊥) → m ≤ n → m ≡ n
not_fewer m n h l = omega (arith, h, l)

-- words that are known to be variants stand before

few_pass : (ws ps : List Text) → AllByRecursion (IsNormal Variant) ws →
    (passing (is_word Variant) (ws ++ ps) ≡ ws ++ passing (is_word Variant) ps)
    × (past (is_word Variant) (ws ++ ps) ≡ past (is_word Variant) ps)
few_pass [] ps n = (refl, refl)
few_pass (w ∷ ws) ps n =
    let more = few_pass ws ps n.1 in let h = n.0.0 in rw h (ap (λ l. w ∷ l) more.0, more.1)

pub taking_few : (ws ps : List Text) → AllByRecursion (IsNormal Variant) ws → Taking (ws ++ ps) ps ws
taking_few ws ps n = record {
  taken = ws;
  keeps = (few_pass ws ps n).0;
  skips = (few_pass ws ps n).1;
  permutes = subst (λ vs. IsPermutation vs ws) (sym (lower-variants ws n)) (IsPermutation-refl ws);
}

-- as many stand there as before
pub taken_many : (before now ws : List Text) → Taking before now ws → AllByRecursion (IsNormal Variant) ws →
    length (passing (is_word Variant) (ws ++ now)) ≡ length (passing (is_word Variant) before)
taken_many before now ws t n = grind (arith, few_pass, length-append, length_permutation, length-map)

different_permutation : (vs ws : List Text) → IsPermutation vs ws → AllDifferent word_cmp vs →
    AllDifferent word_cmp ws
different_permutation vs ws p d =
    grind (arith, differ, permuted_set, length-set_of-different, length_permutation)

-- what is read after them is read of all
pub taken_after : (before now ws rest : List Text) → Taking before now ws →
    AllByRecursion (IsNormal Variant) ws → (r : Result (List Text) ParseError) →
    VariantsReads (ws ++ now) rest r → VariantsReads before rest r
taken_after before now ws rest t n r = by r
  where
    kept : map lower (passing (is_word Variant) (ws ++ now)) ≡ ws ++ map lower (passing (is_word Variant) now)
    kept = grind (arith, few_pass, map-append, lower-variants)

    whole : map lower (passing (is_word Variant) before)
        ≡ map lower t.taken ++ map lower (passing (is_word Variant) now)
    whole = ap (map lower) t.keeps ∙ map-append lower t.taken _

    same : IsPermutation (map lower (passing (is_word Variant) before))
        (map lower (passing (is_word Variant) (ws ++ now)))
    same = rw (whole, kept) (IsPermutation-append_left (map lower (passing (is_word Variant) now))
        (map lower t.taken) ws t.permutes)

    as_many : length (passing (is_word Variant) (ws ++ now)) ≡ length (passing (is_word Variant) before)
    as_many = sym (length-map _ lower) ∙ length_permutation _ _ same ∙ length-map _ lower

    by : (r : Result (List Text) ParseError) → VariantsReads (ws ++ now) rest r →
        VariantsReads before rest r
    by (Ok vs) v = (
      v.0 ∙ sym (permuted_set _ _ same),
      different_permutation _ _ (IsPermutation-sym _ _ same) v.1,
      v.2 ∙ (few_pass ws now n).1 ∙ sym t.skips,
    )
    by (Err InvalidSubtag) v = (refl, λ d. v.1 (different_permutation _ _ same d))
    by (Err OutOfMemory) v = subst (λ k. 4 < k) as_many v
    by (Err InvalidLanguage) v = let other = v.0 in cc
    by (Err InvalidExtension) v = let other = v.0 in cc
    by (Err DuplicatedExtension) v = let other = v.0 in cc

-- all are taken
module _ (before now words : List Text) (t : Taking before now words)
    (none : (passing (is_word Variant) now ≡ []) × (past (is_word Variant) now ≡ now)) (set : List Text)
    (e : set ≡ set_of words) where
  all_of : IsPermutation (map lower (passing (is_word Variant) before)) words
  all_of = grind (arith, append-nil)

  set_is : set ≡ set_of (map lower (passing (is_word Variant) before))
  set_is = e ∙ sym (permuted_set _ _ all_of)

  -- as many in the set: all differ
  pub taken_all : (length set < length words → ⊥) → VariantsReads before now (Ok set)
  taken_all many = grind (arith, length_permutation, all_of, length-set_of, set_is, not_fewer, differ)

  -- fewer: two are equal
  pub taken_twice : length set < length words →
      ¬ (AllDifferent word_cmp (map lower (passing (is_word Variant) before)))
  taken_twice fewer d = grind (arith, length_permutation, all_of, set_is, length-set_of-different)

pub more_done : (before now words later set : List Text) → Taking before now words →
    None ≡ option_map (normal Variant) (take_first (is_word Variant) now) →
    later ≡ skip_first (is_word Variant) now → set ≡ set_of words → (length set < length words → ⊥) →
    VariantsReads before later (Ok set)
more_done before now words later set t e l is many =
    let (ended, past_is, stays) = took_none Variant now e in
    subst (λ rest. VariantsReads before rest (Ok set)) (sym (l ∙ stays))
    (taken_all before now words t (ended, past_is) set is many)

pub more_twice : (before now words set : List Text) → Taking before now words →
    None ≡ option_map (normal Variant) (take_first (is_word Variant) now) → set ≡ set_of words →
    length set < length words → ¬ (AllDifferent word_cmp (map lower (passing (is_word Variant) before)))
more_twice before now words set t e is fewer =
    let (ended, past_is, stays) = took_none Variant now e in
    taken_twice before now words t (ended, past_is) set is fewer

-- the same, of what a take of a word says
module _ (before now words : List Text) (t : Taking before now words) (w : Text) (later : List Text)
    (e : Some w ≡ option_map (normal Variant) (take_first (is_word Variant) now))
    (l : later ≡ skip_first (is_word Variant) now) where
  pub takes_new : (more : List Text) → IsPermutation (w ∷ words) more → Taking before later more
  takes_new more m = grind (arith, taking_one_more)

  pub takes_old : list_any (is_same w) words ≡ true →
      ¬ (AllDifferent word_cmp (map lower (passing (is_word Variant) before)))
  takes_old old =
      let (p, h, same, cut) = took Variant now w e in
      repeats before now words t p h later (cut ∙ ap (λ ps. p ∷ ps) (sym l))
      (subst (λ x. list_any (is_same x) words ≡ true) same old)

  -- with this one there are at most as many as stand there
  pub takes_within : length words + 1 ≤ length (passing (is_word Variant) before)
  takes_within = grind (arith, took, length-append, length_permutation, length-map)

  -- a fifth
  pub takes_much : 4 < length (set_of (w ∷ words)) → 4 < length (passing (is_word Variant) before)
  takes_much h = omega (arith, h, length-set_of (w ∷ words), takes_within)

-- a variant that was taken and what follows it are as many as stood there
pub one_before : (ps rest : List Text) (v : Text) →
    Some v ≡ option_map lower (take_first (is_word Variant) ps) → rest ≡ skip_first (is_word Variant) ps →
    length (passing (is_word Variant) (v ∷ rest)) ≡ length (passing (is_word Variant) ps)
one_before ps rest v e r =
    let (p, h, same, cut) = took Variant ps v e in
    let taking =
    takes_new ps ps [] (taking_none ps) v rest e r (v ∷ []) (IsPermutation-refl (v ∷ [])) in
    taken_many ps rest (v ∷ []) taking
    (subst (IsNormal Variant) (sym same) (IsNormal-normal Variant p h), tt)

-- fewer than four variants, as a set

below : (n : ℕ) → n ≤ 4 → (n ≡ 4 → ⊥) → n < 4
below n l h = omega (arith, l, h)

pub record TakingFew (before now set : List Text) : Type 0 where
  pub taking : Taking before now set
  pub ascending : StrictlyAscends word_cmp set
  pub normal : AllByRecursion (IsNormal Variant) set
  pub short : length set < 4

pub few_none : (ps : List Text) → TakingFew ps ps []
few_none ps = grind arith

pub few_known : (ws ps : List Text) → AllByRecursion (IsNormal Variant) ws → StrictlyAscends word_cmp ws →
    length ws < 4 → TakingFew (ws ++ ps) ps ws
few_known ws ps n a l = grind (arith, taking_few)

module _ (before now set : List Text) (t : TakingFew before now set) (w : Text) (later : List Text)
    (e : Some w ≡ option_map (normal Variant) (take_first (is_word Variant) now))
    (l : later ≡ skip_first (is_word Variant) now)
    (more : List Text) (added : Bool) (a : added ≡ not (list_any (is_same w) set))
    (is : more ≡ set_of (w ∷ set)) where
  normal_word : IsNormal Variant w
  normal_word = let (p, h, same, cut) = took Variant now w e in
      subst (IsNormal Variant) (sym same) (IsNormal-normal Variant p h)

  few_taken : added ≡ true → Taking before later more
  few_taken new = takes_new before now set t.taking w later e l more
      (one_more w set more added (taken_in added w set more t.ascending a is) new)

  few_normal : AllByRecursion (IsNormal Variant) more
  few_normal = subst (AllByRecursion (IsNormal Variant)) (sym is)
      (all-set_of (IsNormal Variant) (w ∷ set) (normal_word, t.normal))

  few_length : length more ≤ 4
  few_length = omega (arith, t.short, length-set_of (w ∷ set), ap length is)

  pub few_new : added ≡ true → (length more ≡ 4 → ⊥) → TakingFew before later more
  few_new new fewer = record {
    taking = few_taken new;
    ascending = subst (StrictlyAscends word_cmp) (sym is) (set_of-ascending (w ∷ set));
    normal = few_normal;
    short = below _ few_length fewer;
  }

  pub few_more : added ≡ true → (rest : List Text) (r : Result (List Text) ParseError) →
      VariantsReads (more ++ later) rest r → VariantsReads before rest r
  few_more new rest r = grind (arith, taken_after, few_taken, few_normal)

  pub few_many : added ≡ true →
      length (passing (is_word Variant) (more ++ later)) ≡ length (passing (is_word Variant) before)
  few_many new = grind (arith, taken_many, few_taken, few_normal)

  pub few_old : added ≡ false → ¬ (AllDifferent word_cmp (map lower (passing (is_word Variant) before)))
  few_old old = takes_old before now set t.taking w later e l
      (known_there w set more added (taken_in added w set more t.ascending a is) old)

not_less : (n : ℕ) → n < n → ⊥
not_less n l = omega (arith, l)

pub few_done : (before now set later : List Text) → TakingFew before now set →
    None ≡ option_map (normal Variant) (take_first (is_word Variant) now) →
    later ≡ skip_first (is_word Variant) now → VariantsReads before later (Ok set)
few_done before now set later t e l = more_done before now set later set t.taking e l
    (sym (set_of_ascending set t.ascending)) (not_less (length set))

-- a variant that no other follows

ended : (ps : List Text) → EndsBefore (is_word Variant) ps →
    (passing (is_word Variant) ps ≡ []) × (past (is_word Variant) ps ≡ ps)
ended ps h = grind arith

pub one_variant : (ps rest : List Text) (v : Text) →
    Some v ≡ option_map lower (take_first (is_word Variant) ps) → rest ≡ skip_first (is_word Variant) ps →
    EndsBefore (is_word Variant) rest → VariantsReads ps rest (Ok (v ∷ []))
one_variant ps rest v e r ends = grind arith
