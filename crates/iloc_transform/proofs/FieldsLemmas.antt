-- Fields that are taken one at a time.
use Rattle.std.proofs.Common.{◌≡◌, suc, ◌+◌, ◌<◌, ◌≤◌, Bool, true, false, cond, ◌&&◌, List, [], ◌∷◌, ◌++◌, length, map, refl, sym, ap, ◌∙◌, arith, append_assoc, append-nil, Some, option_map, is_some, if◌then◌else◌, Err}
use Rattle.std.specs.List.{AllByRecursion, list_all}
use Rattle.std.specs.FinMap.{find, put}
use Rattle.std.specs.FinMap.Entries.{by_order}
use Rattle.std.specs.declared.cmp.Ordering.TheVariants.{Less, Equal, Greater}
use Rattle.std.proofs.lemmas.List.{map-append}
use Rattle.iloc_spec_grammar.specs.Syntax.{Text, TransformKey, Attribute, is_word, IsWord, lower, word_cmp, Fields, fields_pieces, IsField}
use Rattle.iloc_spec_grammar.specs.Meaning.{map_of, normal_fields, normal_values}
use Rattle.iloc_spec_grammar.specs.Reading.{take_first, skip_first, passing, past, before_key, fields_from}
use Rattle.iloc_spec_grammar.proofs.MapLaws.{word_cmp_total, same_words}
use Rattle.iloc_spec_parts.specs.Fronts.{is_field_piece, fields_front, after_fields, BeginsField, fields_at, attributes_front}
use Rattle.iloc_spec_parts.proofs.KeptLaws.{begins_field}
use Rattle.iloc_spec_grammar.specs.Computing.{is_field}
use Rattle.iloc_litemap.proofs.Maps.{map_of_more}
use Rattle.iloc_subtags.proofs.TakingLemmas.{took}
use Rattle.iloc_subtags.specs.declared.parse_error.ParseError.{ParseError}
use Rattle.iloc_subtags.specs.declared.parse_error.ParseError.TheVariants.{InvalidLanguage, InvalidSubtag, InvalidExtension, DuplicatedExtension, OutOfMemory}
use Rattle.iloc_transform.specs.ValueReading.{FieldValueReads}
use Rattle.iloc_transform.specs.FieldsReading.{FieldsFills}
use Rattle.iloc_transform.proofs.RoomLemmas.{values_short}
use Rattle.iloc_spec_grammar.proofs.ReadBack.{all_append}
use Rattle.iloc_spec_grammar.proofs.ReadingLaws.{length-past}
use Rattle.iloc_spec_parts.proofs.TransformLaws.{no_key_empty}

abbrev is_key : Text → Bool
is_key p = is_word TransformKey p

-- of the pieces before, those up to now are taken, as fields that mean m
pub record TakingFields (before now : List Text) (m : Fields) : Type 0 where
  pub taken : Fields
  pub fields : AllByRecursion IsField taken
  pub front : fields_front before ≡ fields_pieces taken ++ fields_front now
  pub rest : after_fields before ≡ after_fields now
  pub means : m ≡ normal_fields taken
  pub room : length m + length now ≤ length before

-- after a key: its values, and the next fields

key_goes_on : (p : Text) (ps : List Text) → IsWord TransformKey p →
    (fields_front (p ∷ ps) ≡ p ∷ passing is_field_piece ps) × (after_fields (p ∷ ps) ≡ past is_field_piece ps)
key_goes_on p ps k = (rw k refl, rw k refl)

after_values : (ps : List Text) →
    (passing is_field_piece ps ≡ attributes_front ps ++ fields_front (past (is_word Attribute) ps))
    × (past is_field_piece ps ≡ after_fields (past (is_word Attribute) ps))
after_values [] = (rw no_key_empty refl, rw no_key_empty refl)
after_values (p ∷ ps) = by (is_word Attribute p) refl (is_key p) refl (after_values ps)
  where
    by : (a : Bool) → is_word Attribute p ≡ a → (k : Bool) → is_key p ≡ k →
        (passing is_field_piece ps ≡ attributes_front ps ++ fields_front (past (is_word Attribute) ps))
        × (past is_field_piece ps ≡ after_fields (past (is_word Attribute) ps))
        → (passing is_field_piece (p ∷ ps)
        ≡ attributes_front (p ∷ ps) ++ fields_front (past (is_word Attribute) (p ∷ ps)))
        × (past is_field_piece (p ∷ ps) ≡ after_fields (past (is_word Attribute) (p ∷ ps)))
    by true e true i more = (rw (e, i) (ap (λ l. p ∷ l) more.0), rw (e, i) more.1)
    by true e false i more = (rw (e, i) (ap (λ l. p ∷ l) more.0), rw (e, i) more.1)
    by false e true i more = (rw (e, i) refl, rw (e, i) refl)
    by false e false i more = (rw (e, i) refl, rw (e, i) refl)

-- one field more

pieces-last : (fs : Fields) (f : Text × List Text) →
    fields_pieces (fs ++ f ∷ []) ≡ fields_pieces fs ++ (f.0 ∷ f.1)
pieces-last [] f = append-nil (f.0 ∷ f.1)
pieces-last (g ∷ fs) f = ap (λ l. (g.0 ∷ g.1) ++ l) (pieces-last fs f)
    ∙ sym (append_assoc (g.0 ∷ g.1) (fields_pieces fs) (f.0 ∷ f.1))

values_are : (ps : List Text) → AllByRecursion (IsWord Attribute) (attributes_front ps)
values_are [] = tt
values_are (p ∷ ps) = by (is_word Attribute p) refl (values_are ps)
  where
    by : (b : Bool) → is_word Attribute p ≡ b → AllByRecursion (IsWord Attribute) (attributes_front ps) →
        AllByRecursion (IsWord Attribute) (cond b (p ∷ attributes_front ps) [])
    by true e more = (e, more)
    by false e more = tt

normal-last : (fs : Fields) (p : Text) (vs : List Text) →
    normal_fields (fs ++ (p, vs) ∷ [])
    ≡ (if is_some (find word_cmp (lower p) (normal_fields fs)) then normal_fields fs else put word_cmp
    (lower p) (normal_values vs) (normal_fields fs))
normal-last fs p vs =
    ap (map_of word_cmp) (map-append (λ f. (lower f.0, normal_values f.1)) fs ((p, vs) ∷ []))
    ∙ map_of_more word_cmp word_cmp_total same_words (map (λ f. (lower f.0, normal_values f.1)) fs) (lower p)
    (normal_values vs)

pub shorter : (now qs more : List Text) (k : Text) → Some k ≡ option_map lower (take_first is_key now) →
    qs ≡ skip_first is_key now → more ≡ past (is_word Attribute) qs → length more < length now
shorter now qs more k e s r =
    let t = took TransformKey now k e in
    let n : length now ≡ suc (length qs) = ap length (t.3 ∙ ap (λ l. t.0 ∷ l) (sym s)) in
    let l = length-past (is_word Attribute) qs in
    let m : length more ≡ length (past (is_word Attribute) qs) = ap length r in
    omega (arith, n, l, m)

put_short : (k : Text) (v : List Text) (es : Fields) → length (put word_cmp k v es) ≤ length es + 1
put_short k v [] = omega arith
put_short k v (e ∷ es) =
    let later = put_short k v es in
    elim (word_cmp k e.0)
    as (λ o. length (by_order o ((k, v) ∷ e ∷ es) ((e.0, v) ∷ es) (e ∷ put word_cmp k v es))
    ≤ suc (length es) + 1) [
      | Less ↦ omega arith
      | Equal ↦ omega arith
      | Greater ↦ omega (arith, later)
    ]

-- a field that may be there makes at most one more
added_short : (there : Bool) (k : Text) (v : List Text) (es : Fields) →
    length (cond there es (put word_cmp k v es)) ≤ length es + 1
added_short true k v es = omega arith
added_short false k v es = put_short k v es

-- a key with its values
pub takes_field : (before now : List Text) (m : Fields) (k : Text) (qs more v : List Text)
    (n : Fields) →
    TakingFields before now m
    → Some k ≡ option_map lower (take_first is_key now) → qs ≡ skip_first is_key now
    → (0 < length (attributes_front qs)) × (v ≡ normal_values (attributes_front qs))
    × (more ≡ past (is_word Attribute) qs)
    → n ≡ (if is_some (find word_cmp k m) then m else put word_cmp k v m) → TakingFields before more n
takes_field before now m k qs more v n h e s r i =
    let t = took TransformKey now k e in
    let p = t.0 in
    let vs : List Text = attributes_front qs in
    let first : now ≡ p ∷ qs = t.3 ∙ ap (λ l. p ∷ l) (sym s) in
    let goes = key_goes_on p qs t.1 in
    let after = after_values qs in
    let pieces : fields_front now ≡ (p ∷ vs) ++ fields_front more =
    ap fields_front first ∙ goes.0 ∙ ap (λ l. p ∷ l) (after.0 ∙ ap (λ l. vs ++ fields_front l) (sym r.2)) in
    record {
      taken = h.taken ++ (p, vs) ∷ [];
      fields = all_append IsField h.taken ((p, vs) ∷ []) h.fields ((t.1, values_are qs, r.0), tt);
      front = h.front ∙ ap (λ l. fields_pieces h.taken ++ l) pieces
          ∙ sym (append_assoc (fields_pieces h.taken) (p ∷ vs) (fields_front more))
          ∙ ap (λ l. l ++ fields_front more) (sym (pieces-last h.taken (p, vs)));
      rest = h.rest ∙ ap after_fields first ∙ goes.1 ∙ after.1 ∙ ap after_fields (sym r.2);
      means = i
          ∙ (λ j. if is_some (find word_cmp (t.2 j) (h.means j)) then h.means j else put word_cmp (t.2 j)
          (r.1 j) (h.means j))
          ∙ sym (normal-last h.taken p vs);
      room = omega (
        arith,
        ap length i,
        added_short (is_some (find word_cmp k m)) k v m,
        shorter now qs more k e s r.2,
        h.room,
      );
    }

-- the fields so far and one more are at most as many as there are pieces
pub field_room : (before now : List Text) (m : Fields) (k : Text) → TakingFields before now m →
    Some k ≡ option_map lower (take_first is_key now) → length m + 1 ≤ length before
field_room before now m k h e =
    let t = took TransformKey now k e in omega (arith, ap length t.3, h.room)

-- and so are the subtags of the next value
pub value_room : (before now : List Text) (m : Fields) (k : Text) (qs : List Text) →
    TakingFields before now m → Some k ≡ option_map lower (take_first is_key now) →
    qs ≡ skip_first is_key now → length (normal_values (attributes_front qs)) ≤ length before
value_room before now m k qs h e s =
    let t = took TransformKey now k e in
    let n : length now ≡ suc (length qs) = ap length (t.3 ∙ ap (λ l. t.0 ∷ l) (sym s)) in
    omega (arith, n, values_short qs, h.room)

-- the front, where a key stands
front_at : (before now : List Text) (m : Fields) (k : Text) → TakingFields before now m →
    Some k ≡ option_map lower (take_first is_key now) →
    (p : Text) × IsWord TransformKey p × (taken : Fields)
    × (fields_front before ≡ fields_pieces taken ++ (p ∷ passing is_field_piece (skip_first is_key now)))
front_at before now m k h e =
    let t = took TransformKey now k e in (
      t.0,
      t.1,
      h.taken,
      h.front
          ∙ ap (λ l. fields_pieces h.taken ++ l)
          (ap fields_front t.3 ∙ (key_goes_on t.0 (skip_first is_key now) t.1).0),
    )

-- memory is wanted for a field

begins : (ps : List Text) (k : Text) (vs more : List Text) → fields_front ps ≡ (k ∷ vs) ++ more →
    IsWord TransformKey k → AllByRecursion (IsWord Attribute) vs → 0 < length vs → BeginsField ps
begins ps k [] more e key all some = absurd (omega (arith, some))
begins ps k (v ∷ vs) more e key all some = begins_field ps k v (vs ++ more) e key all.0

pub wants_memory : (before now : List Text) (m : Fields) (k : Text) (qs : List Text) →
    TakingFields before now m → Some k ≡ option_map lower (take_first is_key now) →
    qs ≡ skip_first is_key now → 0 < length (attributes_front qs) → BeginsField before
wants_memory before now m k qs h e s some = at h.taken h.fields h.front
  where
    at : (fs : Fields) → AllByRecursion IsField fs →
        fields_front before ≡ fields_pieces fs ++ fields_front now → BeginsField before
    at [] g front =
        let t = took TransformKey now k e in
        let first : now ≡ t.0 ∷ qs = t.3 ∙ ap (λ l. t.0 ∷ l) (sym s) in
        begins before t.0 (attributes_front qs) (fields_front (past (is_word Attribute) qs))
        (front ∙ ap fields_front first ∙ (key_goes_on t.0 qs t.1).0 ∙ ap (λ l. t.0 ∷ l) (after_values qs).0)
        t.1 (values_are qs) some
    at (f ∷ fs) g front = begins before f.0 f.1 (fields_pieces fs ++ fields_front now)
        (front ∙ append_assoc (f.0 ∷ f.1) (fields_pieces fs) (fields_front now)) g.0.0 g.0.1 g.0.2

some_values : (vs : List Text) → 4 < length (normal_values vs) → 0 < length vs
some_values [] h = absurd (omega (arith, h))
some_values (v ∷ vs) h = omega arith

-- a key without a value

no_field : (p : Text) (b : Bool) → (is_field (p, []) && b) ≡ false
no_field p b = by (is_word TransformKey p)
  where
    by : (k : Bool) → (((k && true) && false) && b) ≡ false
    by true = refl
    by false = refl

later_false : (xs ys : List Text) → list_all is_field (fields_from is_key ys) ≡ false →
    list_all is_field (fields_from is_key (xs ++ ys)) ≡ false
later_false [] ys h = h
later_false (x ∷ xs) ys h = by (is_key x) (later_false xs ys h)
  where
    and_false : (b c : Bool) → c ≡ false → (b && c) ≡ false
    and_false true c h = h
    and_false false c h = refl

    by : (b : Bool) → list_all is_field (fields_from is_key (xs ++ ys)) ≡ false →
        list_all is_field (cond b ((x, before_key is_key (xs ++ ys)) ∷ fields_from is_key (xs ++ ys))
        (fields_from is_key (xs ++ ys)))
        ≡ false
    by true more = and_false _ _ more
    by false more = more

no_value_there : (qs : List Text) → attributes_front qs ≡ [] →
    before_key is_key (passing is_field_piece qs) ≡ []
no_value_there [] e = refl
no_value_there (q ∷ qs) e = by (is_word Attribute q) refl (is_key q) refl e
  where
    by : (a : Bool) → is_word Attribute q ≡ a → (k : Bool) → is_key q ≡ k →
        cond a (q ∷ attributes_front qs) [] ≡ [] → before_key is_key (passing is_field_piece (q ∷ qs)) ≡ []
    by true h k i e = cc
    by false h true i e = rw (h, i) (rw i refl)
    by false h false i e = rw (h, i) refl

pub lacks_value : (before now : List Text) (m : Fields) (k : Text) (qs : List Text) →
    TakingFields before now m → Some k ≡ option_map lower (take_first is_key now) →
    qs ≡ skip_first is_key now → attributes_front qs ≡ [] → list_all is_field (fields_at before) ≡ false
lacks_value before now m k qs h e s n =
    let f = front_at before now m k h e in
    let rest : List Text = passing is_field_piece (skip_first is_key now) in
    let none : before_key is_key rest ≡ [] =
    no_value_there (skip_first is_key now) (ap attributes_front (sym s) ∙ n) in
    let here : list_all is_field (fields_from is_key (f.0 ∷ rest)) ≡ false =
    rw (f.1, none) (no_field f.0 _) in
    ap (λ l. list_all is_field (fields_from is_key l)) f.3 ∙ later_false (fields_pieces f.2) (f.0 ∷ rest) here

-- what the reader of a value refuses, the reader of fields does
pub refuses : (before now : List Text) (m : Fields) (k : Text) (qs rest left : List Text)
    (f : ParseError) →
    TakingFields before now m → Some k ≡ option_map lower (take_first is_key now) →
    qs ≡ skip_first is_key now → FieldValueReads qs rest (Err f) → FieldsFills before left (Err f)
refuses before now m k qs rest left InvalidExtension h e s r = (refl, lacks_value before now m k qs h e s r.1)
refuses before now m k qs rest left OutOfMemory h e s r =
    wants_memory before now m k qs h e s (some_values (attributes_front qs) r)
refuses before now m k qs rest left InvalidLanguage h e s r = let other = r.0 in cc
refuses before now m k qs rest left InvalidSubtag h e s r = let other = r.0 in cc
refuses before now m k qs rest left DuplicatedExtension h e s r = let other = r.0 in cc
