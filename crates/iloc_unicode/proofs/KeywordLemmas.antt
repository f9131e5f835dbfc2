-- Keywords that are taken one at a time.
use Rattle.std.proofs.Common.{◌≡◌, ℕ, suc, ◌<◌, ◌≤◌, Bool, true, false, not, cond, ◌&&◌, ◌||◌, List, [], ◌∷◌, ◌++◌, length, map, refl, sym, ap, ap₂, ◌∙◌, arith, true≢false, subst, ◌+◌, append-nil, append_assoc, length-append, Option, Some, None, option_map, is_some, nat_lt, get_or}
use Rattle.std.specs.List.{AllByRecursion, list_any}
use Rattle.std.specs.Ordering.{eq_by_cmp}
use Rattle.std.specs.Cmp.{eq_by_cmp_equiv}
use Rattle.std.specs.Option.{option_or}
use Rattle.std.specs.FinMap.{put, find, is_sorted}
use Rattle.std.specs.FinMap.Entries.{by_order}
use Rattle.std.specs.declared.cmp.Ordering.TheVariants.{Less, Equal, Greater}
use Rattle.std.proofs.lemmas.Bool.Decides.{nat_tests}
use Rattle.std.proofs.lemmas.List.{map-append}
use Rattle.iloc_spec_grammar.specs.Syntax.{Text, UnicodeKey, Attribute, is_word, IsWord, lower, word_cmp, is_true, Fields}
use Rattle.iloc_spec_grammar.specs.Meaning.{map_of, normal_values, normal_fields, InvalidExtension, first_piece}
use Rattle.iloc_spec_grammar.specs.Reading.{take_first, skip_first, passing, past, is_two, before_key, fields_from}
use Rattle.iloc_spec_grammar.proofs.MapLaws.{word_cmp_total, same_words, map_of_sorted, find-map_of, map_of_same}
use Rattle.iloc_spec_grammar.proofs.SetLaws.{find-append}
use Rattle.iloc_spec_parts.specs.Fronts.{is_keyword_piece, keywords_front, after_keywords, is_bad_key, KeywordsRead, KeywordsFault, bad_key, before_bad_key, keywords_kept}
use Rattle.iloc_spec_parts.proofs.KeptLaws.{HasKey, kept_append}
use Rattle.iloc_spec_grammar.proofs.ReadBack.{all_append}
use Rattle.iloc_spec_parts.proofs.FrontLaws.{good_value, good_key, value_goes_on, keywords_read_of}
use Rattle.iloc_litemap.proofs.Maps.{tied, map_of_more}
use Rattle.iloc_unicode.specs.Reads.{has_many_values, KeywordsWantMemory, second_key, fifth_value}
use Rattle.iloc_subtags.specs.Lengths.{has_length}
use Rattle.iloc_subtags.specs.NextPiece.{next_has_length}
use Rattle.iloc_subtags.proofs.TakingLemmas.{took, took_none}
use Rattle.std.proofs.Math.Bool.{or-true}
use Rattle.iloc_spec_grammar.proofs.ReadingLaws.{length-past}
use Rattle.iloc_spec_grammar.proofs.Readings.{not_two, two as two_bytes_of}

-- the next piece is as long as a key if it has two bytes
pub two_bytes : (ps : List Text) → next_has_length UnicodeKey ps ≡ is_two (first_piece ps)
unfolding has_length
two_bytes [] = refl
two_bytes (p ∷ ps) = refl

-- pieces after a key: its values, and then the next keywords

module _ (test : Text → Bool) where
  passing_on : (p : Text) (ps : List Text) → test p ≡ true → passing test (p ∷ ps) ≡ p ∷ passing test ps
  passing_on p ps h = ap (λ b. cond b (p ∷ passing test ps) []) h

  passing_off : (p : Text) (ps : List Text) → test p ≡ false → passing test (p ∷ ps) ≡ []
  passing_off p ps h = ap (λ b. cond b (p ∷ passing test ps) []) h

  past_on : (p : Text) (ps : List Text) → test p ≡ true → past test (p ∷ ps) ≡ past test ps
  past_on p ps h = ap (λ b. cond b (past test ps) (p ∷ ps)) h

  past_off : (p : Text) (ps : List Text) → test p ≡ false → past test (p ∷ ps) ≡ p ∷ ps
  past_off p ps h = ap (λ b. cond b (past test ps) (p ∷ ps)) h

-- a piece that is no value begins keywords, or ends them
no_value : (q : Text) (qs : List Text) (b : Bool) → is_two q ≡ b → is_word Attribute q ≡ false →
    (passing is_keyword_piece (q ∷ qs) ≡ keywords_front (q ∷ qs))
    × (past is_keyword_piece (q ∷ qs) ≡ after_keywords (q ∷ qs))
no_value q qs true t h = (
  ap (λ b. cond b (passing is_keyword_piece (q ∷ qs)) []) (sym t),
  ap (λ b. cond b (past is_keyword_piece (q ∷ qs)) (q ∷ qs)) (sym t),
)
no_value q qs false t h =
    let ends : is_keyword_piece q ≡ false = ap₂ ◌||◌ t h in (
      passing_off is_keyword_piece q qs ends
          ∙ ap (λ b. cond b (passing is_keyword_piece (q ∷ qs)) []) (sym t),
      past_off is_keyword_piece q qs ends
          ∙ ap (λ b. cond b (past is_keyword_piece (q ∷ qs)) (q ∷ qs)) (sym t),
    )

after_key : (qs : List Text) →
    (passing is_keyword_piece qs
    ≡ passing (is_word Attribute) qs ++ keywords_front (past (is_word Attribute) qs))
    × (past is_keyword_piece qs ≡ after_keywords (past (is_word Attribute) qs))
after_key [] = (refl, refl)
after_key (q ∷ qs) = by (is_word Attribute q) refl (after_key qs)
  where
    by : (b : Bool) → is_word Attribute q ≡ b →
        (passing is_keyword_piece qs
        ≡ passing (is_word Attribute) qs ++ keywords_front (past (is_word Attribute) qs))
        × (past is_keyword_piece qs ≡ after_keywords (past (is_word Attribute) qs)) →
        (passing is_keyword_piece (q ∷ qs)
        ≡ passing (is_word Attribute) (q ∷ qs) ++ keywords_front (past (is_word Attribute) (q ∷ qs)))
        × (past is_keyword_piece (q ∷ qs) ≡ after_keywords (past (is_word Attribute) (q ∷ qs)))
    by true h more = (
      passing_on is_keyword_piece q qs (value_goes_on q h) ∙ ap (λ l. q ∷ l) more.0
          ∙ ap₂ (λ a b. a ++ keywords_front b) (sym (passing_on (is_word Attribute) q qs h))
          (sym (past_on (is_word Attribute) q qs h)),
      past_on is_keyword_piece q qs (value_goes_on q h) ∙ more.1
          ∙ ap after_keywords (sym (past_on (is_word Attribute) q qs h)),
    )
    by false h more = let n = no_value q qs (is_two q) refl h in (
      n.0
          ∙ ap₂ (λ a b. a ++ keywords_front b) (sym (passing_off (is_word Attribute) q qs h))
          (sym (past_off (is_word Attribute) q qs h)),
      n.1 ∙ ap after_keywords (sym (past_off (is_word Attribute) q qs h)),
    )

goes_on : (p : Text) → is_two p ≡ true → is_keyword_piece p ≡ true
goes_on p h = ap (λ b. b || is_word Attribute p) h

front_at : (p : Text) (qs : List Text) → is_two p ≡ true →
    keywords_front (p ∷ qs)
    ≡ p ∷ (passing (is_word Attribute) qs ++ keywords_front (past (is_word Attribute) qs))
front_at p qs h = ap (λ b. cond b (passing is_keyword_piece (p ∷ qs)) []) h
    ∙ passing_on is_keyword_piece p qs (goes_on p h) ∙ ap (λ l. p ∷ l) (after_key qs).0

rest_at : (p : Text) (qs : List Text) → is_two p ≡ true →
    after_keywords (p ∷ qs) ≡ after_keywords (past (is_word Attribute) qs)
rest_at p qs h = ap (λ b. cond b (past is_keyword_piece (p ∷ qs)) (p ∷ qs)) h
    ∙ past_on is_keyword_piece p qs (goes_on p h) ∙ (after_key qs).1

-- the values before the next key

front_begins : (ps : List Text) → before_key is_two (keywords_front ps) ≡ []
front_begins [] = refl
front_begins (p ∷ ps) = (elim (is_two p)
    as (λ b. is_two p ≡ b → before_key is_two (cond b (passing is_keyword_piece (p ∷ ps)) []) ≡ []) [
      | true ↦ λ h. ap (before_key is_two) (passing_on is_keyword_piece p ps (goes_on p h))
          ∙ ap (λ b. cond b [] (p ∷ before_key is_two (passing is_keyword_piece ps))) h
      | false ↦ λ h. refl
    ]) refl

values_first : (qs more : List Text) → before_key is_two more ≡ [] →
    (before_key is_two (passing (is_word Attribute) qs ++ more) ≡ passing (is_word Attribute) qs)
    × (fields_from is_two (passing (is_word Attribute) qs ++ more) ≡ fields_from is_two more)
values_first [] more e = (e, refl)
values_first (q ∷ qs) more e = by (is_word Attribute q) refl (values_first qs more e)
  where
    by : (b : Bool) → is_word Attribute q ≡ b →
        (before_key is_two (passing (is_word Attribute) qs ++ more) ≡ passing (is_word Attribute) qs)
        × (fields_from is_two (passing (is_word Attribute) qs ++ more) ≡ fields_from is_two more) →
        (before_key is_two (cond b (q ∷ passing (is_word Attribute) qs) [] ++ more)
        ≡ cond b (q ∷ passing (is_word Attribute) qs) [])
        × (fields_from is_two (cond b (q ∷ passing (is_word Attribute) qs) [] ++ more)
        ≡ fields_from is_two more)
    by true h rest = let n = not_two q h in (
      ap (λ b. cond b [] (q ∷ before_key is_two (passing (is_word Attribute) qs ++ more))) n
          ∙ ap (λ l. q ∷ l) rest.0,
      ap (λ b. cond b
          ((q, before_key is_two (passing (is_word Attribute) qs ++ more))
          ∷ fields_from is_two (passing (is_word Attribute) qs ++ more))
          (fields_from is_two (passing (is_word Attribute) qs ++ more))) n
          ∙ rest.1,
    )
    by false h rest = (e, refl)

fields_at : (p : Text) (qs : List Text) → is_two p ≡ true →
    fields_from is_two (keywords_front (p ∷ qs))
    ≡ (p, passing (is_word Attribute) qs) ∷ fields_from is_two (keywords_front (past (is_word Attribute) qs))
fields_at p qs h =
    let more = keywords_front (past (is_word Attribute) qs) in
    let first = values_first qs more (front_begins (past (is_word Attribute) qs)) in
    ap (fields_from is_two) (front_at p qs h)
    ∙ ap (λ b. cond b
    ((p, before_key is_two (passing (is_word Attribute) qs ++ more))
    ∷ fields_from is_two (passing (is_word Attribute) qs ++ more))
    (fields_from is_two (passing (is_word Attribute) qs ++ more))) h
    ∙ (λ i. (p, first.0 i) ∷ first.1 i)

-- bad keys

bad_values : (qs more : List Text) →
    list_any is_bad_key (passing (is_word Attribute) qs ++ more) ≡ list_any is_bad_key more
bad_values [] more = refl
bad_values (q ∷ qs) more = (elim (is_word Attribute q) as (λ b. is_word Attribute q ≡ b →
    list_any is_bad_key (cond b (q ∷ passing (is_word Attribute) qs) [] ++ more) ≡ list_any is_bad_key more) [
      | true ↦
          λ h. ap (λ b. b || list_any is_bad_key (passing (is_word Attribute) qs ++ more)) (good_value q h)
          ∙ bad_values qs more
      | false ↦ λ h. refl
    ]) refl

bad_at : (p : Text) (qs : List Text) → IsWord UnicodeKey p →
    list_any is_bad_key (keywords_front (p ∷ qs))
    ≡ list_any is_bad_key (keywords_front (past (is_word Attribute) qs))
bad_at p qs h = ap (list_any is_bad_key) (front_at p qs (two_bytes_of p h))
    ∙ ap (λ b.
    b || list_any is_bad_key (passing (is_word Attribute) qs ++ keywords_front (past (is_word Attribute) qs)))
    (good_key p h)
    ∙ bad_values qs (keywords_front (past (is_word Attribute) qs))

-- how much room a map takes at most

values_shorter : (ps : List Text) → length (normal_values ps) ≤ length ps
values_shorter [] = omega arith
values_shorter (p ∷ ps) =
    let later = values_shorter ps in
    elim (is_true (lower p)) as (λ b. length (cond (not b) (lower p ∷ normal_values ps) (normal_values ps))
    ≤ suc (length ps)) [
      | true ↦ omega (arith, later)
      | false ↦ omega (arith, later)
    ]

put_length : {X : Type 0} (k : Text) (v : X) (es : List (Text × X)) →
    length (put word_cmp k v es) ≤ suc (length es)
put_length k v [] = omega arith
put_length k v (e ∷ es) =
    let later = put_length k v es in
    elim (word_cmp k e.0) as (λ r.
    length (by_order r ((k, v) ∷ e ∷ es) ((e.0, v) ∷ es) (e ∷ put word_cmp k v es)) ≤ suc (suc (length es))) [
      | Less ↦ omega arith
      | Equal ↦ omega arith
      | Greater ↦ omega (arith, later)
    ]

one_longer : (b : Bool) (k : Text) (v : List Text) (m : Fields) →
    length (cond b m (put word_cmp k v m)) ≤ suc (length m)
one_longer true k v m = omega arith
one_longer false k v m = put_length k v m

-- of the pieces before, the fields up to now are in the map, with at most as many pairs as pieces
pub record Filled (before now : List Text) (m : Fields) : Type 0 where
  pub fields : Fields
  pub keys : AllByRecursion HasKey fields
  pub all : fields_from is_two (keywords_front before) ≡ fields ++ fields_from is_two (keywords_front now)
  pub bad : list_any is_bad_key (keywords_front before) ≡ list_any is_bad_key (keywords_front now)
  pub rest : after_keywords before ≡ after_keywords now
  pub means : m ≡ normal_fields fields
  pub room : length m + length (keywords_front now) ≤ length (keywords_front before)

-- one field more

module _ {X : Type 0} where
  -- two keys that are there make two pairs
  two_found : (a k : Text) → (a ≡ k → ⊥) → (es : List (Text × X)) → is_some (find word_cmp a es) ≡ true →
      is_some (find word_cmp k es) ≡ true → 1 < length es
  two_found a k n [] h g = absurd (true≢false (sym h))
  two_found a k n (e ∷ []) h g =
      absurd (n (tied word_cmp same_words a e.0 (one (eq_by_cmp word_cmp a e.0) e.1 h)
      ∙ sym (tied word_cmp same_words k e.0 (one (eq_by_cmp word_cmp k e.0) e.1 g))))
    where
      one : (b : Bool) (v : X) → is_some (cond b (Some v) None) ≡ true → b ≡ true
      one true v h = refl
      one false v h = absurd (true≢false (sym h))
  two_found a k n (e ∷ f ∷ es) h g = omega arith

abbrev normal_field : Text × List Text → Text × List Text
normal_field f = (lower f.0, normal_values f.1)

any_at : {X : Type 0} (test : X → Bool) (xs : List X) (x : X) (ys : List X) → test x ≡ true →
    list_any test (xs ++ x ∷ ys) ≡ true
any_at test [] x ys h = ap (λ b. b || list_any test ys) h
any_at test (y ∷ xs) x ys h = ap (λ b. test y || b) (any_at test xs x ys h) ∙ or-true (test y)

module _ (before now : List Text) (m : Fields) (t : Filled before now m) (w : Text)
    (later : List Text) (e : Some w ≡ option_map lower (take_first (is_word UnicodeKey) now))
    (l : later ≡ skip_first (is_word UnicodeKey) now) where
  now_is : (p : Text) × IsWord UnicodeKey p × (w ≡ lower p) × (now ≡ p ∷ later)
  now_is = let (p, h, same, cut) = took UnicodeKey now w e in (p, h, same, cut ∙ ap (λ ps. p ∷ ps) (sym l))

  -- all fields: those so far, the one at the key, and more
  all_is : (p : Text) → IsWord UnicodeKey p → now ≡ p ∷ later →
      fields_from is_two (keywords_front before)
      ≡ t.fields ++ (p, passing (is_word Attribute) later)
      ∷ fields_from is_two (keywords_front (past (is_word Attribute) later))
  all_is p h cut = t.all ∙ ap (λ ps. t.fields ++ fields_from is_two (keywords_front ps)) cut
      ∙ ap (λ fs. t.fields ++ fs) (fields_at p later (two_bytes_of p h))

  -- those that are kept, which go on after it
  kept_is : (p : Text) → IsWord UnicodeKey p → now ≡ p ∷ later →
      keywords_kept before
      ≡ t.fields ++ (p, passing (is_word Attribute) later) ∷ keywords_kept (past (is_word Attribute) later)
  kept_is p h cut =
      let more : Fields = fields_from is_two (keywords_front (past (is_word Attribute) later)) in
      let f : Text × List Text = (p, passing (is_word Attribute) later) in
      ap before_bad_key (all_is p h cut) ∙ kept_append t.fields (f ∷ more) t.keys
      ∙ ap (λ b. t.fields ++ cond b (f ∷ before_bad_key more) []) h

  -- the key, its values and what is left after them
  front_now : length (keywords_front now) ≡ suc (length (passing (is_word Attribute) later)
      + length (keywords_front (past (is_word Attribute) later)))
  front_now =
      let (p, h, same, cut) = now_is in
      ap (λ ps. length (keywords_front ps)) cut ∙ ap length (front_at p later (two_bytes_of p h))
      ∙ ap suc (length-append (passing (is_word Attribute) later)
      (keywords_front (past (is_word Attribute) later)))

  -- there is room for the values, and for a pair more
  pub values_room :
      length (normal_values (passing (is_word Attribute) later)) ≤ length (keywords_front before)
  values_room =
      let few = values_shorter (passing (is_word Attribute) later) in omega (arith, few, front_now, t.room)

  pub pair_room : length m + 1 ≤ length (keywords_front before)
  pair_room = omega (arith, front_now, t.room)

  -- less is left
  pub filled_less : (after : List Text) → after ≡ past (is_word Attribute) later →
      length after < length now
  filled_less after a =
      let (p, h, same, cut) = now_is in
      let s : length (past (is_word Attribute) later) ≤ length later =
      length-past (is_word Attribute) later in
      let m : length after ≡ length (past (is_word Attribute) later) = ap length a in
      let n : length now ≡ suc (length later) = ap length cut in
      omega arith

  pub filled_more : (value after : List Text) (n : Fields) →
      value ≡ normal_values (passing (is_word Attribute) later) → after ≡ past (is_word Attribute) later →
      n ≡ cond (is_some (find word_cmp w m)) m (put word_cmp w value m) → Filled before after n
  filled_more value after n v a is =
      let (p, h, same, cut) = now_is in
      record {
        fields = t.fields ++ (p, passing (is_word Attribute) later) ∷ [];
        keys = all_append HasKey t.fields ((p, passing (is_word Attribute) later) ∷ []) t.keys (h, tt);
        all = all_is p h cut
            ∙ sym (append_assoc t.fields ((p, passing (is_word Attribute) later) ∷ [])
            (fields_from is_two (keywords_front (past (is_word Attribute) later))))
            ∙ ap (λ ps. (t.fields ++ (p, passing (is_word Attribute) later) ∷ [])
            ++ fields_from is_two (keywords_front ps)) (sym a);
        bad = t.bad ∙ ap (λ ps. list_any is_bad_key (keywords_front ps)) cut ∙ bad_at p later h
            ∙ ap (λ ps. list_any is_bad_key (keywords_front ps)) (sym a);
        rest =
            t.rest ∙ ap after_keywords cut ∙ rest_at p later (two_bytes_of p h) ∙ ap after_keywords (sym a);
        room =
            let longer = one_longer (is_some (find word_cmp w m)) w value m in
            let pairs = ap length is in
            let left_over = ap (λ ps. length (keywords_front ps)) a in
            omega (arith, t.room, front_now, longer, pairs, left_over);
        means = is
            ∙ (λ i. cond (is_some (find word_cmp (same i) (t.means i))) (t.means i)
            (put word_cmp (same i) (v i) (t.means i)))
            ∙ sym (map_of_more word_cmp word_cmp_total same_words (map normal_field t.fields) (lower p)
            (normal_values (passing (is_word Attribute) later)))
            ∙ ap (map_of word_cmp)
            (sym (map-append normal_field t.fields ((p, passing (is_word Attribute) later) ∷ [])));
      }

  -- where memory was refused for a value
  pub many_values : (length (normal_values (passing (is_word Attribute) later)) ≤ 4 → ⊥) →
      KeywordsWantMemory before
  many_values many =
      let (p, h, same, cut) = now_is in
      fifth_value (ap (list_any has_many_values) (kept_is p h cut)
      ∙ any_at has_many_values t.fields (p, passing (is_word Attribute) later)
      (keywords_kept (past (is_word Attribute) later))
      (more (length (normal_values (passing (is_word Attribute) later))) many))
    where
      more : (n : ℕ) → (n ≤ 4 → ⊥) → nat_lt 4 n ≡ true
      more n h = grind (arith, nat_tests)

  -- where memory was refused for a key
  pub many_keys : is_some (find word_cmp w m) ≡ false → (length m < 1 → ⊥) → KeywordsWantMemory before
  many_keys new some =
      let (p, h, same, cut) = now_is in
      second_key (by m t.means new some p same (kept_is p h cut))
    where
      there : (q : Text) (fs more : Fields) (f : Text × List Text) →
          is_some (option_or (find word_cmp q (map normal_field fs))
          (find word_cmp q (normal_field f ∷ map normal_field more)))
          ≡ true →
          is_some (find word_cmp q (normal_fields (fs ++ f ∷ more))) ≡ true
      there q fs more f h =
          ap is_some (find-map_of word_cmp word_cmp_total q (map normal_field (fs ++ f ∷ more))
          ∙ ap (find word_cmp q) (map-append normal_field fs (f ∷ more))
          ∙ find-append word_cmp q (map normal_field fs) (normal_field f ∷ map normal_field more))
          ∙ h

      first : (o r : Option (List Text)) → is_some o ≡ true → is_some (option_or o r) ≡ true
      first None r h = absurd (true≢false (sym h))
      first (Some x) r h = refl

      second : (o r : Option (List Text)) → is_some r ≡ true → is_some (option_or o r) ≡ true
      second None r h = h
      second (Some x) r h = refl

      itself : (q : Text) → eq_by_cmp word_cmp q q ≡ true
      itself q = (eq_by_cmp_equiv word_cmp_total).refl q

      by : (m : Fields) → m ≡ normal_fields t.fields → is_some (find word_cmp w m) ≡ false →
          (length m < 1 → ⊥) → (p : Text) → w ≡ lower p →
          keywords_kept before
          ≡ t.fields ++ (p, passing (is_word Attribute) later)
          ∷ keywords_kept (past (is_word Attribute) later) →
          1 < length (normal_fields (keywords_kept before))
      by [] means new some p same all = absurd (some (omega arith))
      by (x ∷ xs) means new some p same all = rw all (two_found x.0 (lower p) differ (normal_fields (t.fields
          ++ (p, passing (is_word Attribute) later) ∷ keywords_kept (past (is_word Attribute) later)))
          (there x.0 t.fields (keywords_kept (past (is_word Attribute) later))
          (p, passing (is_word Attribute) later)
          (first _ _ (ap is_some (sym (find-map_of word_cmp word_cmp_total x.0 (map normal_field t.fields))
          ∙ ap (find word_cmp x.0) (sym means))
          ∙ found x.0 refl)))
          (there (lower p) t.fields (keywords_kept (past (is_word Attribute) later))
          (p, passing (is_word Attribute) later)
          (second _ _ (ap (λ b. is_some (cond b (Some (normal_values (passing (is_word Attribute) later)))
          (find word_cmp (lower p) (map normal_field (keywords_kept (past (is_word Attribute) later))))))
          (itself (lower p))))))
        where
          found : (q : Text) → q ≡ x.0 → is_some (find word_cmp q (x ∷ xs)) ≡ true
          found q e = ap (λ k. is_some (cond (eq_by_cmp word_cmp k x.0) (Some x.1) (find word_cmp k xs))) e
              ∙ ap (λ b. is_some (cond b (Some x.1) (find word_cmp x.0 xs))) (itself x.0)

          differ : x.0 ≡ lower p → ⊥
          differ e = true≢false (sym (found w (same ∙ sym e)) ∙ new)

-- nothing more can be taken

no_key : (now : List Text) → is_two (first_piece now) ≡ false →
    (keywords_front now ≡ []) × (after_keywords now ≡ now)
no_key now h =
    (ap (λ b. cond b (passing is_keyword_piece now) []) h, ap (λ b. cond b (past is_keyword_piece now) now) h)

pub filled_all : (before now rest : List Text) (m : Fields) → Filled before now m →
    rest ≡ skip_first (is_word UnicodeKey) now → is_two (first_piece rest) ≡ false →
    None ≡ option_map lower (take_first (is_word UnicodeKey) now) → KeywordsRead before m rest
filled_all before now rest m t stays h none =
    let same : rest ≡ now = stays ∙ (took_none UnicodeKey now none).2 in
    let ends = no_key now (ap (λ ps. is_two (first_piece ps)) (sym same) ∙ h) in
    let all : fields_from is_two (keywords_front before) ≡ t.fields =
    t.all ∙ ap (λ ps. t.fields ++ fields_from is_two ps) ends.0 ∙ append-nil t.fields in
    let read = keywords_read_of before (t.bad ∙ ap (list_any is_bad_key) ends.0) in
    subst (λ (r : Fields × List Text). KeywordsRead before r.0 r.1)
    (λ i. ((ap normal_fields all ∙ sym t.means) i, (t.rest ∙ ends.1 ∙ sym same) i)) read

not_key : (q : Text) (b : Bool) → None ≡ option_map lower (cond b (Some q) None) → b ≡ false
not_key q true h = cc
not_key q false h = refl

pub filled_bad : (before now rest : List Text) (m : Fields) → Filled before now m →
    rest ≡ skip_first (is_word UnicodeKey) now → is_two (first_piece rest) ≡ true →
    None ≡ option_map lower (take_first (is_word UnicodeKey) now) → KeywordsFault before InvalidExtension
filled_bad before now rest m t stays h none =
    at now t (ap (λ ps. is_two (first_piece ps)) (sym (stays ∙ (took_none UnicodeKey now none).2)) ∙ h) none
  where
    at : (now : List Text) → Filled before now m → is_two (first_piece now) ≡ true →
        None ≡ option_map lower (take_first (is_word UnicodeKey) now) → KeywordsFault before InvalidExtension
    at [] t h none = absurd (true≢false (sym h))
    at (q ∷ qs) t h none = bad_key (t.bad ∙ ap (list_any is_bad_key) (front_at q qs h)
        ∙ ap (λ b. b
        || list_any is_bad_key
        (passing (is_word Attribute) qs ++ keywords_front (past (is_word Attribute) qs)))
        (ap₂ (λ a b. a && not b) h (not_key q (is_word UnicodeKey q) none)))

-- A map over another that holds its keys.

-- over no pair
pub over_nothing : (m es : Fields) → is_sorted word_cmp m ≡ true → length es < 1 →
    map_of word_cmp (m ++ es) ≡ m
over_nothing m [] s none = ap (map_of word_cmp) (append-nil m) ∙ map_of_sorted word_cmp m s
over_nothing m (e ∷ es) s none = absurd (omega arith)

-- over a pair whose key it has
pub over_known : (m : Fields) (k : Text) (v : List Text) → is_sorted word_cmp m ≡ true →
    is_some (find word_cmp k m) ≡ true → map_of word_cmp (m ++ (k, v) ∷ []) ≡ m
over_known m k v s h =
    map_of_same word_cmp word_cmp_total same_words (m ++ (k, v) ∷ []) m
    (λ q. find-append word_cmp q m ((k, v) ∷ [])
    ∙ by q (eq_by_cmp word_cmp q k) refl (find word_cmp q m) refl)
    ∙ map_of_sorted word_cmp m s
  where
    by : (q : Text) (b : Bool) → eq_by_cmp word_cmp q k ≡ b → (o : Option (List Text)) →
        find word_cmp q m ≡ o → option_or o (cond b (Some v) None) ≡ o
    by q true e (Some x) f = refl
    by q false e (Some x) f = refl
    by q false e None f = refl
    by q true e None f = absurd (true≢false (sym h
        ∙ ap (λ w. is_some (find word_cmp w m)) (sym (tied word_cmp same_words q k e)) ∙ ap is_some f))

-- over the only pair of some, whose key it has
pub over_one : (m es : Fields) (d : Text × List Text) → is_sorted word_cmp m ≡ true → 1 ≤ length es →
    length es < 2 → is_some (find word_cmp (get_or es 0 d).0 m) ≡ true → map_of word_cmp (m ++ es) ≡ m
over_one m [] d s some few h = absurd (omega arith)
over_one m (e ∷ []) d s some few h = over_known m e.0 e.1 s h
over_one m (e ∷ x ∷ es) d s some few h = absurd (omega arith)

-- A map of one pair over another map.

-- the only pair is set
pub only_put : (m rest es : Fields) (k : Text) (v : List Text) → length m ≡ 1 → m ≡ (k, v) ∷ rest →
    is_sorted word_cmp es ≡ true → put word_cmp k v es ≡ map_of word_cmp (m ++ es)
only_put m [] es k v l is s =
    sym (ap (λ (fs : Fields). map_of word_cmp (fs ++ es)) is
    ∙ ap (put word_cmp k v) (map_of_sorted word_cmp es s))
only_put m (e ∷ rest) es k v l is s = let two = ap length is in absurd (omega (arith, l, two))
