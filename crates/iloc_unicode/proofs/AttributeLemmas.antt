-- Attributes that are taken one at a time.
use Rattle.std.proofs.Common.{◌≡◌, ℕ, ◌<◌, ◌≤◌, false, cond, List, [], ◌∷◌, ◌++◌, length, map, refl, sym, ap, ◌∙◌, subst, arith, append-nil, length-append, suc, ◌+◌, Bool, true, Some, None, option_map}
use Rattle.std.specs.List.{AllByRecursion}
use Rattle.std.proofs.lemmas.List.{length-map}
use Rattle.std.proofs.lemmas.List.Sorted.{IsPermutation-sym, IsPermutation-middle, length_permutation}
use Rattle.iloc_spec_grammar.specs.Syntax.{Text, Attribute, is_word, lower, word_cmp}
use Rattle.iloc_spec_grammar.specs.Meaning.{set_of}
use Rattle.iloc_spec_grammar.specs.Reading.{take_first, skip_first, passing, past}
use Rattle.iloc_spec_grammar.specs.Values.{IsNormal, StrictlyAscends}
use Rattle.iloc_spec_grammar.proofs.ReadWords.{IsNormal-normal}
use Rattle.iloc_spec_grammar.proofs.SetLaws.{set_of-first, set_of-set_of, length-set_of}
use Rattle.iloc_spec_grammar.proofs.ValuesLaws.{set_of_ascending}
use Rattle.iloc_spec_grammar.proofs.WellRead.{set_of-ascending, all-set_of}
use Rattle.iloc_word_list.specs.TakingIn.{TakesIn}
use Rattle.iloc_word_list.proofs.CollectorLaws.{permuted_set, set_grows}
use Rattle.iloc_spec_parts.specs.Fronts.{attributes_front, attributes_read, after_attributes}
use Rattle.iloc_spec_parts.proofs.FieldLaws.{passing_stops, past_stops}
use Rattle.iloc_subtags.specs.NextPiece.{next_has_length}
use Rattle.iloc_subtags.proofs.PeekLemmas.{ends_before}
use Rattle.iloc_subtags.proofs.TakingLemmas.{took, took_none}

-- of the words before, those up to now are taken, as these words, which are at most as many
pub record Gathered (before now words : List Text) : Type 0 where
  pub gives : set_of (words ++ map lower (passing (is_word Attribute) now)) ≡ attributes_read before
  pub skips : past (is_word Attribute) now ≡ after_attributes before
  pub room : length words + length (attributes_front now) ≤ length (attributes_front before)

pub gathered_none : (ps : List Text) → Gathered ps ps []
gathered_none ps = record { gives = refl; skips = refl; room = omega arith }

-- a collector has at most one word more
pub taken_length : (w : Text) (ws new : List Text) (added : Bool) → TakesIn w ws new added →
    length new ≤ suc (length ws)
taken_length w ws new true t = let same = length_permutation (w ∷ ws) new t in omega (arith, same)
taken_length w ws new false t = let same = ap length t.1 in omega (arith, same)

-- a word that stands behind others stands before them as well
moved : (w : Text) (vs more : List Text) → set_of ((w ∷ vs) ++ more) ≡ set_of (vs ++ w ∷ more)
moved w vs more = permuted_set _ _ (IsPermutation-sym _ _ (IsPermutation-middle vs w more))

-- words more make no shorter set
grows : (more vs : List Text) → length (set_of vs) ≤ length (set_of (vs ++ more))
grows [] vs = rw (append-nil vs) (omega arith)
grows (w ∷ more) vs = let h = set_grows w (vs ++ more) in
    let e = ap length (moved w vs more) in omega (arith, grows more vs, h, e)

module _ (before now words : List Text) (t : Gathered before now words) (w : Text)
    (later : List Text) (e : Some w ≡ option_map lower (take_first (is_word Attribute) now))
    (l : later ≡ skip_first (is_word Attribute) now) where
  found : map lower (passing (is_word Attribute) now) ≡ w ∷ map lower (passing (is_word Attribute) later)
  found =
      let (p, h, same, cut) = took Attribute now w e in
      ap (λ ps. map lower (passing (is_word Attribute) ps)) (cut ∙ ap (λ ps. p ∷ ps) (sym l))
      ∙ ap (λ b. map lower (cond b (p ∷ passing (is_word Attribute) later) [])) h
      ∙ ap (λ v. v ∷ map lower (passing (is_word Attribute) later)) (sym same)

  rest : past (is_word Attribute) now ≡ past (is_word Attribute) later
  rest =
      let (p, h, same, cut) = took Attribute now w e in
      ap (past (is_word Attribute)) (cut ∙ ap (λ ps. p ∷ ps) (sym l))
      ∙ ap (λ b. cond b (past (is_word Attribute) later) (p ∷ later)) h

  -- one word less is left
  one_less : length (attributes_front now) ≡ suc (length (attributes_front later))
  one_less =
      let (p, h, same, cut) = took Attribute now w e in
      ap (λ ps. length (attributes_front ps)) (cut ∙ ap (λ ps. p ∷ ps) (sym l))
      ∙ ap (λ b. length (cond b (p ∷ attributes_front later) [])) h

  -- there is room for it
  pub gathered_room : length words + 1 ≤ length (attributes_front before)
  gathered_room = omega (arith, t.room, one_less)

  with_word : set_of ((w ∷ words) ++ map lower (passing (is_word Attribute) later)) ≡ attributes_read before
  with_word = moved w words _ ∙ ap (λ vs. set_of (words ++ vs)) (sym found) ∙ t.gives

  pub gathered_more : (more : List Text) → set_of more ≡ set_of (w ∷ words) →
      length more ≤ suc (length words) → Gathered before later more
  gathered_more more is longer = record {
    gives =
        sym (set_of-first more _) ∙ ap (λ s. set_of (s ++ map lower (passing (is_word Attribute) later))) is
        ∙ set_of-first (w ∷ words) _ ∙ with_word;
    skips = sym rest ∙ t.skips;
    room = omega (arith, t.room, one_less, longer);
  }

  -- where memory was refused, more than four words stand there
  pub gathered_many : 4 < length (set_of (w ∷ words)) → length (attributes_read before) ≤ 4 → ⊥
  gathered_many many few =
      let h = grows (map lower (passing (is_word Attribute) later)) (w ∷ words) in
      let e = ap length with_word in
      omega (arith, many, few, h, e)

-- words that are known to be attributes stand before

few_pass : (ws ps : List Text) → AllByRecursion (IsNormal Attribute) ws →
    (map lower (passing (is_word Attribute) (ws ++ ps)) ≡ ws ++ map lower (passing (is_word Attribute) ps))
    × (past (is_word Attribute) (ws ++ ps) ≡ past (is_word Attribute) ps)
few_pass [] ps n = (refl, refl)
few_pass (w ∷ ws) ps n =
    let more = few_pass ws ps n.1 in
    let h = n.0.0 in
    let l = n.0.1 in
    rw h (rw l (ap (λ vs. w ∷ vs) more.0), more.1)

-- all of them are among the attributes at the front
few_front : (ws ps : List Text) → AllByRecursion (IsNormal Attribute) ws →
    length (attributes_front (ws ++ ps)) ≡ length ws + length (attributes_front ps)
few_front ws ps n =
    sym (length-map (attributes_front (ws ++ ps)) lower) ∙ ap length (few_pass ws ps n).0
    ∙ length-append ws (map lower (attributes_front ps))
    ∙ ap (λ k. length ws + k) (length-map (attributes_front ps) lower)

pub gathered_few : (ws ps : List Text) → AllByRecursion (IsNormal Attribute) ws →
    Gathered (ws ++ ps) ps ws
gathered_few ws ps n = record {
  gives = ap set_of (sym (few_pass ws ps n).0);
  skips = sym (few_pass ws ps n).1;
  room = omega (arith, few_front ws ps n);
}

-- what is read after them is read of all
pub gathered_after : (before now ws : List Text) → Gathered before now ws →
    AllByRecursion (IsNormal Attribute) ws →
    (attributes_read (ws ++ now) ≡ attributes_read before)
    × (after_attributes (ws ++ now) ≡ after_attributes before)
gathered_after before now ws t n =
    (ap set_of (few_pass ws now n).0 ∙ t.gives, (few_pass ws now n).1 ∙ t.skips)

-- all are taken
pub gathered_all : (before now words set : List Text) → Gathered before now words →
    None ≡ option_map lower (take_first (is_word Attribute) now) → set ≡ set_of words →
    (set ≡ attributes_read before) × (skip_first (is_word Attribute) now ≡ after_attributes before)
gathered_all before now words set t e is =
    let (none, rest, stays) = took_none Attribute now e in (
      is ∙ ap set_of (sym (append-nil words)) ∙ ap (λ l. set_of (words ++ map lower l)) (sym none) ∙ t.gives,
      stays ∙ sym rest ∙ t.skips,
    )

-- fewer than four attributes, as a set

below : (n : ℕ) → n ≤ 4 → (n ≡ 4 → ⊥) → n < 4
below n l h = omega (arith, l, h)

pub record GatheredFew (before now set : List Text) : Type 0 where
  pub gathered : Gathered before now set
  pub ascending : StrictlyAscends word_cmp set
  pub normal : AllByRecursion (IsNormal Attribute) set
  pub short : length set < 4

pub few_none : (ps : List Text) → GatheredFew ps ps []
few_none ps = record { gathered = gathered_none ps; ascending = tt; normal = tt; short = omega arith }

module _ (before now set : List Text) (t : GatheredFew before now set) (w : Text)
    (later : List Text) (e : Some w ≡ option_map lower (take_first (is_word Attribute) now))
    (l : later ≡ skip_first (is_word Attribute) now)
    (more : List Text) (is : more ≡ set_of (w ∷ set)) where
  few_gathered : Gathered before later more
  few_gathered =
      let longer = length-set_of (w ∷ set) in let same = ap length is in
      gathered_more before now set t.gathered w later e l more (ap set_of is ∙ set_of-set_of (w ∷ set))
      (omega (arith, longer, same))

  few_normal : AllByRecursion (IsNormal Attribute) more
  few_normal =
      let (p, h, same, cut) = took Attribute now w e in
      let n : IsNormal Attribute w = subst (IsNormal Attribute) (sym same) (IsNormal-normal Attribute p h) in
      subst (AllByRecursion (IsNormal Attribute)) (sym is)
      (all-set_of (IsNormal Attribute) (w ∷ set) (n, t.normal))

  few_length : length more ≤ 4
  few_length = omega (arith, t.short, length-set_of (w ∷ set), ap length is)

  pub few_new : (length more ≡ 4 → ⊥) → GatheredFew before later more
  few_new fewer = record {
    gathered = few_gathered;
    ascending = subst (StrictlyAscends word_cmp) (sym is) (set_of-ascending (w ∷ set));
    normal = few_normal;
    short = below _ few_length fewer;
  }

  pub few_more : (attributes_read (more ++ later) ≡ attributes_read before)
      × (after_attributes (more ++ later) ≡ after_attributes before)
  few_more = gathered_after before later more few_gathered few_normal

  -- the attributes that are left after these are among all of them
  pub few_room : length (attributes_front (more ++ later)) ≤ length (attributes_front before)
  few_room = omega (arith, few_front more later few_normal, few_gathered.room)

pub few_done : (before now set : List Text) → GatheredFew before now set →
    None ≡ option_map lower (take_first (is_word Attribute) now) →
    (set ≡ attributes_read before) × (skip_first (is_word Attribute) now ≡ after_attributes before)
few_done before now set t e =
    gathered_all before now set set t.gathered e (sym (set_of_ascending set t.ascending))

-- a next piece that is too short or too long for an attribute: none stands at the front
pub no_attributes : (ps : List Text) → next_has_length Attribute ps ≡ false →
    (attributes_read ps ≡ []) × (after_attributes ps ≡ ps)
no_attributes ps other =
    let ends = ends_before Attribute ps other in (
      ap (λ ws. set_of (map lower ws)) (passing_stops (is_word Attribute) [] ps tt ends),
      past_stops (is_word Attribute) [] ps tt ends,
    )
