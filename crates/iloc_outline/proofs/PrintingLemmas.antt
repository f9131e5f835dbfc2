-- What is printed of spans, piece by piece.
use Rattle.std.proofs.Common.{◌≡◌, ◌≢◌, ℕ, zero, suc, ◌+◌, ◌-◌, ◌<◌, ◌≤◌, Bool, true, false, true≢false, cond, not, List, [], ◌∷◌, ◌++◌, length, take, drop, map, flat_map, filter, refl, sym, ap, ◌∙◌, arith, add-zero, append_assoc, append-nil, slice_index, slice_index_or, slice_set, add-one}
use Rattle.std.specs.Prelude.{codes, if◌then◌else◌}
use Rattle.std.specs.Char.{to_ascii_lowercase}
use Rattle.std.specs.List.{AllByRecursion, AllZip}
use Rattle.std.proofs.Math.Seq.{take-suc}
use Rattle.std.proofs.lemmas.Grind.{flat_map-append}
use Rattle.std.proofs.lemmas.List.{drop-drop, drop-take, get_or-drop, get_or-take, map-append, take-append-drop, length-append, length-drop, length-take-le, take-take, take_more_set}
use Rattle.iloc_spec_grammar.specs.Syntax.{Text, dashes, first_piece, is_other_singleton, is_true, kept, lower, pieces}
use Rattle.iloc_spec_grammar.specs.Values.{spelled_value}
use Rattle.iloc_spec_grammar.proofs.PiecesLaws.{at_pieces, pieces-join}
use Rattle.iloc_spec_grammar.proofs.PartTexts.{join-dashes}
use Rattle.iloc_spec_grammar.proofs.WordsLaws.{length-lower}
use Rattle.iloc_pieces.specs.Cursor.{IsEnd, IsNextPiece, IsShortPiece, piece_left, pieces_left, bytes_left}
use Rattle.iloc_outline.specs.Printing.{bytes_from, edited_text, is_kept, kept_pieces, printed_role, span_text}
use Rattle.iloc_spec_grammar.specs.Reading.{rest_of}
use Rattle.iloc_outline.specs.Outlines.{Gives, parts_text}
use Rattle.iloc_outline.specs.Spans.{AreShort, IsSpan}
use Rattle.iloc_outline.specs.Identifier.{front_text}
use Rattle.iloc_outline.specs.declared.outline.Outline.{Outline}
use Rattle.iloc_spans.specs.declared.spans.Spans.{Spans}
use Rattle.iloc_spans.specs.declared.span.Span.{Span}
use Rattle.iloc_outline.specs.Parts.{Part, printed_part, printed_by}
use Rattle.iloc_spans.specs.declared.span.Role.{Role}
use Rattle.iloc_spans.specs.declared.span.Role.TheVariants as roles
use Rattle.iloc_spans.specs.contracts.span.Role.{the_type}
use denote.Enum.Bare.{sameb}
use Rattle.iloc_pieces.specs.declared.place.Cursor.{Cursor}
use Rattle.iloc_pieces.proofs.CursorLemmas.{begins, first_within, length_piece, length_rest}
use Rattle.iloc_outline.proofs.Fronts.{length-raised}

-- a short piece lies within the window, and its bytes are those from its place on
module _ (l : Cursor) (short : IsShortPiece (piece_left l)) where
  pub piece_within : l.piece_length ≤ l.remaining
  piece_within = omega (arith, length_piece l short, first_within (bytes_left l), length_rest l)

  pub piece_inside : l.at + l.piece_length ≤ length l.window.now
  piece_inside = omega (arith, piece_within, l.inside)

  pub piece_bytes : take l.piece_length (drop l.at l.window.now) ≡ piece_left l
  piece_bytes =
      sym (take-take l.piece_length l.remaining (drop l.at l.window.now) piece_within)
      ∙ ap (λ n. take n (bytes_left l)) (length_piece l short) ∙ begins (bytes_left l)

  pub piece_first : l.piece_length ≢ 0 → slice_index (piece_left l) 0 ≡ slice_index l.window.now l.at
  piece_first some = grind (arith, piece_bytes, get_or-take, get_or-drop, add-zero)

  pub piece_none : l.piece_length ≡ 0 → slice_index (piece_left l) 0 ≡ 0
  piece_none none = grind (arith, piece_bytes)

-- a hyphen and the piece are put behind what was there
pub piece_put : (to news : Text) (start n : ℕ) (p : Text) → start < length to → take (start + 1 + n) news
    ≡ take (start + 1) (slice_set to start 45) ++ lower p
    → take (start + 1 + n) news ≡ take start to ++ 45 ∷ lower p
piece_put to news start n p l e = grind (arith, take_more_set, append_assoc)

-- ---- pieces that are kept

pub pieces_behind : (t : Text) → pieces t ≡ first_piece (pieces t) ∷ rest_of (pieces t)
pieces_behind t = at_pieces (λ ps. ps ≡ first_piece ps ∷ rest_of ps) (λ p ps. refl) t

pub first_short : (t : Text) → AllByRecursion IsShortPiece (pieces t) → IsShortPiece (first_piece (pieces t))
first_short t = grind (arith, at_pieces)

pub next_short : (l m : Cursor) → IsNextPiece l m → AllByRecursion IsShortPiece (pieces_left l)
    → AllByRecursion IsShortPiece (pieces_left m)
next_short l m next h = (rw next.pieces at h).1

-- a piece that is kept, and the others
kept_more : (r : Role) (p : Text) (ps : List Text) → is_kept r p ≡ true → dashes (kept_pieces r (p ∷ ps))
    ≡ (45 ∷ lower p) ++ dashes (kept_pieces r ps)
kept_more r p ps e = grind arith

module _ (r : Role) (l m : Cursor) (next : IsNextPiece l m) (kept : is_kept r (piece_left m) ≡ true) where
  pub kept_next : dashes (kept_pieces r (rest_of (pieces_left l)))
      ≡ (45 ∷ lower (piece_left m)) ++ dashes (kept_pieces r (rest_of (pieces_left m)))
  kept_next = grind (arith, pieces_behind, kept_more)

  module _ (F T to : Text) (end : ℕ) (inside : end ≤ length to)
      (all : take end to ++ dashes (kept_pieces r (rest_of (pieces_left l))) ≡ F ++ T) where
    pub kept_room : end + length (piece_left m) + 1 ≤ length F + length T
    kept_room =
        omega (
          arith,
          ap length all,
          ap length kept_next,
          length-append (take end to)
              (dashes (kept_pieces r (rest_of (pieces_left l)))),
          length-append F T,
          length-append (45 ∷ lower (piece_left m)) (dashes (kept_pieces r (rest_of (pieces_left m)))),
          length-lower
              (piece_left m),
          length-take-le end to inside,
        )

    pub kept_put : (news : Text) (more : ℕ) → take more news ≡ take end to ++ 45 ∷ lower (piece_left m)
        → take more news ++ dashes (kept_pieces r (rest_of (pieces_left m))) ≡ F ++ T
    kept_put news more e = grind (arith, append_assoc, kept_next)

-- nothing is left behind the last piece
module _ (r : Role) (l : Cursor) (end : IsEnd l) (F T to : Text) (n : ℕ)
    (all : take n to ++ dashes (kept_pieces r (rest_of (pieces_left l))) ≡ F ++ T) where
  pub kept_all : take n to ≡ F ++ T
  kept_all = grind (arith, append-nil)

-- ---- an edited part

-- the value of a field is `true` if nothing else is left
abbrev pub closing : Role → List Text → List Text
closing roles.Field ps = spelled_value ps
closing _ ps = ps

-- the pieces that are kept behind the first
abbrev pub kept_of : Role → Text → List Text
kept_of r p = kept_pieces (printed_role r (first_piece (pieces p))) (rest_of (pieces p))

filter_lowered : (ps : List Text) → filter (λ w. not (is_true w)) (map lower ps)
    ≡ map lower (filter (λ p. not (is_true (lower p))) ps)
filter_lowered [] = refl
filter_lowered (p ∷ ps) = grind (arith, filter_lowered ps)

filter_all : (ps : List Text) → filter (λ (p : Text). true) ps ≡ ps
filter_all [] = refl
filter_all (p ∷ ps) = ap (λ l. p ∷ l) (filter_all ps)

printed_is : (r : Role) (p : Text) (ps : List Text) → printed_by r (p ∷ ps)
    ≡ lower p ∷ closing (printed_role r p) (kept_pieces (printed_role r p) ps)
printed_is roles.Keyword p ps = ap (λ l. lower p ∷ l) (filter_lowered ps)
printed_is roles.Field p ps = ap (λ l. lower p ∷ spelled_value l) (filter_lowered ps)
printed_is roles.Singleton p ps =
    elim (is_other_singleton (to_ascii_lowercase (slice_index p 0))) as
    (λ b. lower p ∷ (if b then kept ps else map lower ps)
    ≡ lower p ∷ closing (cond b roles.Singleton roles.Variant)
    (kept_pieces (cond b roles.Singleton roles.Variant) ps)) [
      | true ↦ refl
      | false ↦ ap (λ l. lower p ∷ map lower l) (sym (filter_all ps))
    ]
printed_is _ p ps = ap (λ l. lower p ∷ map lower l) (sym (filter_all ps))

pub edited_is : (r : Role) (p : Text)
    → edited_text r p ≡ (45 ∷ lower (first_piece (pieces p))) ++ dashes
    (closing (printed_role r (first_piece (pieces p))) (kept_of r p))
edited_is r p = grind (arith, pieces_behind, printed_is)

-- no byte is printed for no pieces only
no_dashes : (ps : List Text) → length (dashes ps) ≡ 0 → ps ≡ []
no_dashes [] e = refl
no_dashes (p ∷ ps) e = search length-append

closing_some : (r : Role) (ps : List Text) → (r ≡ roles.Field → length (dashes ps) ≢ 0) → closing r ps ≡ ps
closing_some roles.Field [] h = absurd (h refl refl)
closing_some _ _ h = refl

closing_longer : (r : Role) (ps : List Text) → length (dashes ps) ≤ length (dashes (closing r ps))
closing_longer roles.Variant ps = omega arith
closing_longer roles.Singleton ps = omega arith
closing_longer roles.Attribute ps = omega arith
closing_longer roles.Keyword ps = omega arith
closing_longer roles.Field [] = omega arith
closing_longer roles.Field (p ∷ ps) = omega arith

module _ (r : Role) (p : Text) where
  pub edited_longer : length (first_piece (pieces p)) + 1 + length (dashes (kept_of r p)) ≤ length
      (edited_text r p)
  edited_longer =
      omega (
        arith,
        ap length (edited_is r p),
        length-append (45 ∷ lower (first_piece (pieces p)))
            (dashes (closing (printed_role r (first_piece (pieces p))) (kept_of r p))),
        length-lower (first_piece (pieces p)),
        closing_longer (printed_role r (first_piece (pieces p)))
            (kept_of r p),
      )

  -- the first piece and those that are kept are all
  pub edited_kept : (printed_role r (first_piece (pieces p)) ≡ roles.Field
      → length (dashes (kept_of r p)) ≢ 0)
      → edited_text r p ≡ (45 ∷ lower (first_piece (pieces p))) ++ dashes (kept_of r p)
  edited_kept h = simp (edited_is, closing_some)

  -- or `true` is behind the first
  pub edited_true : printed_role r (first_piece (pieces p)) ≡ roles.Field → length (dashes (kept_of r p)) ≡ 0
      → edited_text r p ≡ (45 ∷ lower (first_piece (pieces p))) ++ codes "-true"
  edited_true e h = grind (arith, edited_is, no_dashes)

-- whether it is a field, as the code asks it
pub field_told : (r : Role) → sameb the_type r roles.Field ≡ true → r ≡ roles.Field
field_told roles.Field h = refl
field_told _ h = absurd (true≢false (sym h))

pub no_field_told : (r : Role) → sameb the_type r roles.Field ≡ false → r ≢ roles.Field
no_field_told r h e = grind (arith, true≢false)

-- the bytes behind the hyphen of a span, as the cursor has them
pub bytes_here : (w rest : Text) (from end : ℕ) → end ≤ length w → rest
    ≡ take (end - from) (take (length w - from) (drop from w)) → rest ≡ bytes_from w from end
bytes_here w rest from end l e = grind (arith, take-take)

-- what was written is what is printed of the part
module _ (r role : Role) (rest p : Text) (is : rest ≡ p) (e : role
    ≡ printed_role r (first_piece (pieces rest))) (F : Text) where
  kept_here : kept_pieces role (rest_of (pieces rest)) ≡ kept_of r p
  kept_here = (λ j. kept_pieces (e j) (rest_of (pieces rest))) ∙ ap (kept_of r) is

  role_here : role ≡ printed_role r (first_piece (pieces p))
  role_here = e ∙ ap (λ t. printed_role r (first_piece (pieces t))) is

  pub written_room : length (first_piece (pieces rest)) + 1 + length
      (dashes (kept_pieces role (rest_of (pieces rest)))) ≤ length (edited_text r p)
  written_room = omega (
    arith,
    edited_longer r p,
    ap (λ t. length (first_piece (pieces t))) is,
    ap
        (λ ps. length (dashes ps)) kept_here,
  )

  pub written_true : role ≡ roles.Field → length (dashes (kept_pieces role (rest_of (pieces rest)))) ≡ 0
      → ((F ++ 45 ∷ lower (first_piece (pieces rest))) ++ dashes
      (kept_pieces role (rest_of (pieces rest)))) ++ codes "-true" ≡ F ++ edited_text r p
  written_true f none = grind (arith, no_dashes, append-nil, append_assoc, edited_true, role_here, kept_here)

  pub written_kept : (role ≡ roles.Field → length (dashes (kept_pieces role (rest_of (pieces rest)))) ≢ 0)
      → (F ++ 45 ∷ lower (first_piece (pieces rest))) ++ dashes (kept_pieces role (rest_of (pieces rest)))
      ≡ F ++ edited_text r p
  written_kept some = grind (arith, append_assoc, kept_here, edited_kept, role_here)

-- ---- all spans

lower_dashes : (ps : List Text) → dashes (map lower ps) ≡ lower (dashes ps)
unfolding lower
lower_dashes [] = refl
lower_dashes (p ∷ ps) = simp (map-append, lower_dashes ps)

-- the bytes behind the first of those from one place to another
bytes_after : (t : Text) (start end : ℕ) → start < end → drop 1 (bytes_from t start end)
    ≡ bytes_from t (start + 1) end
bytes_after t start end l =
    let n : end - start ≡ 1 + (end - (start + 1)) = omega arith in
    cc (n, drop-take 1 (end - (start + 1)) (drop start t), drop-drop 1 start t)

module _ (t : Text) (s : Span) (p : Part) (is : IsSpan t s p) where
  pub span_long : length (bytes_from t s.start s.end) ≡ s.end - s.start
  span_long = grind (arith, length-take-le, length-drop)

  pub span_some : s.edited ≡ true → s.start < s.end
  span_some e = more p.pieces (is.short e).some (ap length is.spanned.bytes)
    where
      more : (ps : List Text) → ps ≢ [] → length (bytes_from t s.start s.end) ≡ length (dashes ps)
          → s.start < s.end
      more [] some h = absurd (some refl)
      more (q ∷ qs) some h = omega (arith, span_long, h, length-append (45 ∷ q) (dashes qs))

  span_pieces : s.edited ≡ true → pieces (bytes_from t (s.start + 1) s.end) ≡ p.pieces
  span_pieces e = ap pieces (sym (bytes_after t s.start s.end (span_some e)) ∙ ap (drop 1) is.spanned.bytes)
      ∙ cut p.pieces (is.short e)
    where
      cut : (ps : List Text) → AreShort ps → pieces (drop 1 (dashes ps)) ≡ ps
      cut [] h = absurd (h.some refl)
      cut (q ∷ qs) h = ap pieces (sym (join-dashes q qs)) ∙ pieces-join q qs h.hyphen_free

  pub span_short : s.edited ≡ true → AllByRecursion IsShortPiece (pieces (bytes_from t (s.start + 1) s.end))
  span_short e = grind (arith, span_pieces)

  -- what is printed of the span is what is printed of the part
  pub span_is : span_text t s ≡ dashes (printed_part p)
  span_is = at s.edited refl
    where
      at : (b : Bool) → s.edited ≡ b → span_text t s ≡ dashes (printed_part p)
      at true e =
          grind (arith, span_pieces)
      at false e =
          grind (arith, lower_dashes)

pub spans_are : (t : Text) (ss : List Span) (ps : List Part) → AllZip (IsSpan t) ss ps
    → flat_map (span_text t) ss ≡ parts_text ps
spans_are t [] [] h = refl
spans_are t [] (p ∷ ps) h = absurd h
spans_are t (s ∷ ss) [] h = absurd h
spans_are t (s ∷ ss) (p ∷ ps) h = λ j. span_is t s p h.0 j ++ spans_are t ss ps h.1 j

-- one of the spans is a part
pub span_at : (t : Text) (ss : List Span) (ps : List Part) (i : ℕ) (d : Span) → AllZip (IsSpan t) ss ps
    → i < length ss → (p : Part) × IsSpan t (slice_index_or ss i d) p
span_at t [] ps i d h l = absurd (omega arith)
span_at t (s ∷ ss) [] i d h l = absurd h
span_at t (s ∷ ss) (p ∷ ps) zero d h l = (p, h.0)
span_at t (s ∷ ss) (p ∷ ps) (suc i) d h l = span_at t ss ps i d h.1 (omega arith)

-- what is printed of the first spans and of one more
module _ {X : Type 0} (f : X → Text) (xs : List X) (i : ℕ) (d : X) (l : i < length xs) where
  pub flat_more : flat_map f (take (i + 1) xs) ≡ flat_map f (take i xs) ++ f (slice_index_or xs i d)
  flat_more =
      ap (λ n. flat_map f (take n xs)) (add-one i) ∙ ap (flat_map f) (take-suc xs i d l)
      ∙ flat_map-append f (take i xs) (slice_index_or xs i d ∷ [])
      ∙ ap (λ t. flat_map f (take i xs) ++ t) (append-nil (f (slice_index_or xs i d)))

  pub flat_room : length (flat_map f (take i xs)) + length (f (slice_index_or xs i d)) ≤ length
      (flat_map f xs)
  flat_room =
      let whole : flat_map f (take (i + 1) xs) ++ flat_map f (drop (i + 1) xs) ≡ flat_map f xs =
      simp (← flat_map-append, take-append-drop) in
      grind (arith, flat_more, length-append)

pub spell_wider : (w : Text) (len : ℕ) → len ≤ length w → (ss : List Span) (ps : List Part)
    → AllZip (IsSpan (take len w)) ss ps → AllZip (IsSpan w) ss ps
spell_wider w len l [] [] h = tt
spell_wider w len l [] (p ∷ ps) h = absurd h
spell_wider w len l (s ∷ ss) [] h = absurd h
spell_wider w len l (s ∷ ss) (p ∷ ps) h = (
  (let inside : s.end ≤ len = omega
      (arith, h.0.spanned.inside, length-take-le len w l) in let n : len ≡ s.start + (len - s.start) = omega
      (arith, h.0.spanned.ascends) in grind (arith, length-take-le, take-take, drop-take)),
  spell_wider w len l ss ps h.1,
)

-- there is room for one span more
pub span_room : (w : Text) (ss : List Span) (ps : List Part) → AllZip (IsSpan w) ss ps
    → (F to : Text) (i : ℕ) (d : Span) (end : ℕ) → i < length ss → end ≤ length to
    → take end to ≡ F ++ flat_map (span_text w) (take i ss)
    → end + length (span_text w (slice_index_or ss i d)) ≤ length F + length (parts_text ps)
span_room w ss ps h F to i d end there inside e =
    omega (
      arith,
      ap length e,
      length-take-le end to inside,
      length-append F (flat_map (span_text w) (take i ss)),
      flat_room (span_text w) ss i d there,
      ap length (spans_are w ss ps h),
    )

-- ---- the front

pub length-front_text : (script region : ℕ) (t : Text) → length (front_text script region t) ≡ length t
length-front_text script region t = simp (length-raised, length-lower)

-- the text of an outline of the first bytes
module _ (w : Text) (len : ℕ) (l : len ≤ length w) (o : Outline) (spans : Spans) (normal : Text)
    (g : Gives (take len w) o spans normal) where
  pub front_within : o.front ≤ len
  front_within = omega (arith, g.inside, length-take-le len w l)

  pub gives_text : normal ≡ front_text o.script o.region (take o.front w) ++ parts_text g.parts
  gives_text = grind (arith, take-take, front_within)

  pub gives_length : length normal ≡ o.front + length (parts_text g.parts)
  gives_length =
      omega (
        arith,
        ap length gives_text,
        length-append (front_text o.script o.region (take o.front w))
            (parts_text g.parts),
        length-front_text o.script o.region (take o.front w),
        length-take-le o.front w
            (omega (arith, front_within)),
      )
