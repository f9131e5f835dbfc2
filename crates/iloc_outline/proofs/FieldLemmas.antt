-- Fields are passed one after another, and each is put where it belongs.
use Rattle.std.proofs.Common.{◌≡◌, ◌≢◌, ℕ, ◌+◌, ◌-◌, ◌<◌, ◌≤◌, Bool, false, List, [], ◌∷◌, ◌++◌, length, map, refl, sym, ap, ◌∙◌, arith, inr, append-nil, length-append, Option, Some, None}
use Rattle.std.specs.List.{AllByRecursion}
use Rattle.std.proofs.lemmas.List.{map-append, length-map}
use Rattle.std.proofs.lemmas.List.Concat.{flat_map-append}
use Rattle.iloc_spec_grammar.specs.Syntax.{Text, Field, Fields, Attribute, IsWord, is_word, join, fields_pieces, first_piece}
use Rattle.iloc_spec_grammar.proofs.ReadBack.{all_append}
use Rattle.iloc_outline.specs.Fields.{IsAfterValues, PrintsAsItIs, IsValueRead}
use Rattle.iloc_outline.specs.Gathering.{Gathers, Takes, pieces_in}
use Rattle.iloc_spans.specs.Inserting.{IsPutFrom}
use Rattle.iloc_pieces.specs.Cursor.{IsLater, IsSpanned, piece_left, pieces_left, bytes_left, whole_text}
use Rattle.iloc_pieces.specs.Words.{IsUpToEight, word_number}
use Rattle.iloc_outline.specs.Parts.{Part, field_part}
use Rattle.iloc_outline.specs.Reading.{EndsInKey, IsFieldOfRole, IsTooMuch, ReadsFields, role_key, unless_end}
use Rattle.iloc_outline.specs.Spans.{IsSpan}
use Rattle.iloc_spans.specs.Spans.{held_spans}
use Rattle.iloc_outline.specs.declared.fields.FieldValue.{FieldValue}
use Rattle.iloc_pieces.specs.declared.place.Cursor.{Cursor}
use Rattle.iloc_spans.specs.declared.inserting.Inserted.{Inserted}
use Rattle.iloc_spans.specs.declared.inserting.Inserted.TheVariants.{Put, There, Full}
use Rattle.iloc_spans.specs.declared.span.Role.{Role}
use Rattle.iloc_spans.specs.declared.span.Role.TheVariants as roles
use Rattle.iloc_spans.specs.declared.span.Span.{Span}
use Rattle.iloc_spans.specs.declared.spans.Spans.{Spans}
use Rattle.iloc_outline.proofs.GatherLemmas.{gathers_few, gathers_none, gathers_put, gathers_puts, gathers_there}
use Rattle.iloc_pieces.proofs.CursorLemmas.{length_rest, past_none, past_past, spanned_none}
use Rattle.iloc_outline.proofs.SpansLemmas.{field_short}
use Rattle.iloc_spans.proofs.HeldLemmas.{length-held}
use Rattle.iloc_outline.proofs.WordLemmas.{length-pieces_of}
use Rattle.iloc_pieces.proofs.WordNumbers.{field_key_fits, key_fits}

-- ---- keys and fields

-- a key has a number
pub key_kind_fits : (r : Role) (p : Text) → IsWord (role_key r) p → IsUpToEight p
key_kind_fits roles.Field p h = field_key_fits p h
key_kind_fits _ p h = key_fits p h

-- a key and its values
field_of : (r : Role) (key : Text) (vs : List Text) → IsWord (role_key r) key
    → AllByRecursion (IsWord Attribute) vs → (r ≡ roles.Field → 0 < length vs) → IsFieldOfRole r (key, vs)
field_of roles.Field key vs h each some = (h, each, some refl)
field_of _ key vs h each some = (h, each)

-- the pieces of one field more
pieces_more : (fs : Fields) (f : Field) → fields_pieces (fs ++ (f ∷ [])) ≡ fields_pieces fs ++ (f.0 ∷ f.1)
pieces_more fs f = simp (flat_map-append, append-nil)

-- each field has a piece
pub length-fields_pieces : (fs : Fields) → length fs ≤ length (fields_pieces fs)
length-fields_pieces [] = omega arith
length-fields_pieces (f ∷ fs) = grind (arith, length-append, length-fields_pieces fs)

no_values : (vs : List Text) → length vs ≡ 0 → vs ≡ []
no_values [] l = refl
no_values (v ∷ vs) l = absurd (omega arith)

pieces_fields : (r : Role) (fs : Fields) → pieces_in (map (field_part r) fs) ≡ fields_pieces fs
pieces_fields r [] = refl
pieces_fields r (f ∷ fs) = ap (λ ps. (f.0 ∷ f.1) ++ ps) (pieces_fields r fs)

-- ---- the fields that come first

-- none
pub takes_none : (r : Role) (l : Cursor) → IsLater l → (s : List Span) (o : Bool)
    → Takes r l l s s 0 o o
takes_none r l later s o = grind (arith, past_none, gathers_none)

-- fields that were put in order are read
taken : (r : Role) (l : Cursor) (fs : Fields) (old new : Spans) (last : ℕ) (o n : Bool)
    → AllByRecursion (IsFieldOfRole r) fs
    → Gathers (whole_text l) (map (field_part r) fs) (held_spans old) (held_spans new) last o n
    → ReadsFields r l fs old new o n
taken r l fs old new last o n each g = search (length-map, length-fields_pieces, gathers_puts, pieces_fields)

module _ (r : Role) (l at : Cursor) (old : Spans) (mid : List Span) (last : ℕ) (o n : Bool)
    (w : Takes r l at (held_spans old) mid last o n) where
  -- where no key comes next
  pub takes_past : (new : Spans) → mid ≡ held_spans new → ReadsFields r l w.fields old new o n
  takes_past new e =
      taken r l w.fields old new last o n w.each
      (rw e at w.gathers)

  -- no more spans were put than pieces were passed
  pub takes_few : length mid + length (pieces_left at) ≤ length (held_spans old) + length (pieces_left l)
  takes_few =
      omega (
        arith,
        gathers_few _ _ _ _ _ _ _ w.gathers,
        length-map w.fields (field_part r),
        ap length w.past.pieces,
        length-append (fields_pieces w.fields) (pieces_left at),
        length-fields_pieces w.fields,
      )

  -- where there is no room
  pub takes_full : 64 ≤ length mid → IsTooMuch old (length (pieces_left l))
  takes_full full =
      omega (
        arith,
        full,
        gathers_few _ _ _ _ _ _ _ w.gathers,
        length-map w.fields (field_part r),
        ap length w.past.pieces,
        length-append (fields_pieces w.fields) (pieces_left at),
        length-pieces_of at,
        length-fields_pieces w.fields,
      )

  module _ (to : Cursor) (v : FieldValue) (h : IsValueRead at to v) where
    spanned : IsSpanned (whole_text at) (at.at - 1) v.end (piece_left at ∷ h.values)
    spanned = h.end (at.at - 1) [] (spanned_none at w.past.later)

    after : (next : Option Cursor) → unless_end v.is_end to ≡ next → IsAfterValues at h.values next
    after next e = rw e at h.next

    -- what follows is shorter
    pub field_less : (next : Cursor) → unless_end v.is_end to ≡ Some next → next.remaining < at.remaining
    field_less next e =
        let k = after (Some next) e in
        omega (
          arith,
          length_rest at,
          length_rest next,
          ap length (k.0.rest (λ none. cc)),
          length-append (join (piece_left at ∷ h.values)) (45 ∷ bytes_left next),
        )

    -- a key of `t` without a value
    pub ends_in_key : r ≡ roles.Field → IsWord (role_key r) (piece_left at) → v.count ≡ 0
        → EndsInKey (pieces_left l)
    unfolding is_word
    ends_in_key e key zero = cut (unless_end v.is_end to) h.next
      where
        alone : h.values ≡ []
        alone = no_values h.values (omega (arith, h.count))

        ends : (rest : List Text) → pieces_left at ≡ piece_left at ∷ (h.values ++ rest)
            → is_word Attribute (first_piece rest) ≡ false → EndsInKey (pieces_left l)
        ends rest is none = record {
          fields = w.fields;
          each = rw e at w.each;
          key = piece_left at;
          is_key = rw e at key;
          rest = rest;
          cut = cc (w.past.pieces, is, alone);
          none = none;
        }

        cut : (next : Option Cursor) → IsAfterValues at h.values next → EndsInKey (pieces_left l)
        cut None k = ends [] (k ∙ ap (λ vs. piece_left at ∷ vs) (sym (append-nil h.values))) refl
        cut (Some m) k = ends (pieces_left m) k.0.pieces k.1

    module _ (key : IsWord (role_key r) (piece_left at)) (some : r ≡ roles.Field → v.count ≢ 0)
        (new : List Span)
        (k edited : Bool) (m now : ℕ) (e : m ≡ word_number (piece_left at))
        (plain : edited ≡ false → PrintsAsItIs r v.count v.has_true) where
      abbrev field : Field
      field = (piece_left at, h.values)

      abbrev more : Fields
      more = w.fields ++ (field ∷ [])

      abbrev parts : List Part
      parts = map (field_part r) w.fields

      abbrev span : Span
      span = record { word = m; start = at.at - 1; end = v.end; role = r; edited = edited }

      abbrev IsNow : Inserted → Type 0
      IsNow i = IsPutFrom old.count span mid new last now n k i

      counted : (i : Inserted) → IsNow i → IsPutFrom (length (held_spans old)) span mid new last now n k i
      counted i = search length-held

      is_field : IsFieldOfRole r field
      is_field =
          field_of r (piece_left at) h.values key h.each (λ t. let l = some t in omega (arith, h.count))

      field_span : IsSpan (whole_text at) span (field_part r field)
      field_span = grind (arith, spanned, is_field, field_short)

      is_span : IsSpan (whole_text l) span (field_part r field)
      is_span = rw w.past.text at field_span

      module _ (i : Inserted) (is : IsNow i) (room : i ≢ Full) where
        each_more : AllByRecursion (IsFieldOfRole r) more
        each_more = all_append (IsFieldOfRole r) w.fields (field ∷ []) w.each (is_field, tt)

        put : (j : Inserted) → IsNow j → j ≢ Full
            → Gathers (whole_text l) (parts ++ (field_part r field ∷ [])) (held_spans old) new now o k
        put Put h t =
            (gathers_put _ parts (held_spans old) mid last o n w.gathers new now k span _ is_span
            (counted Put h)).0
        put There h t =
            (gathers_there _ parts (held_spans old) mid last o n w.gathers new now k span _ is_span
            (counted There h)).0
        put Full h t = absurd (t refl)

        gathered : Gathers (whole_text l) (map (field_part r) more) (held_spans old) new now o k
        gathered =
            rw (map-append (field_part r) w.fields (field ∷ [])) (put i is room)

        -- one field more
        pub takes_more : (next : Cursor) → unless_end v.is_end to ≡ Some next
            → Takes r l next (held_spans old) new now o k
        takes_more next t =
            let a = after (Some next) t in
            record {
              fields = more;
              past = rw (pieces_more w.fields field) (past_past w.past a.0);
              each = each_more;
              ends = inr a.1;
              gathers = gathered;
            }

        -- the last one
        pub takes_end : (then : Spans) → new ≡ held_spans then → unless_end v.is_end to ≡ None
            → (fs : Fields) × (pieces_left l ≡ fields_pieces fs) × ReadsFields r l fs old then o k
        takes_end then s t = (
          more,
          grind (arith, after, pieces_more),
          taken r l more old then now o k each_more
              (rw s at gathered),
        )
