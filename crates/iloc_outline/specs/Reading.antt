-- What the readers of parts find.
use Rattle.std.specs.Prelude.{◌≡◌, ◌⊎◌, ℕ, ◌+◌, ◌-◌, ◌<◌, ◌≤◌, Bool, true, false, List, [], ◌∷◌, ◌++◌}
use Rattle.std.specs.Prelude.{length, map}
use Rattle.std.specs.Prelude.{flat_map, ⊤, Option, Some, None}
use Rattle.std.specs.List.{AllByRecursion}
use Rattle.std.specs.Char.{to_ascii_lowercase}
use Rattle.iloc_memory.specs.Refusals.{RefusedWithin}
use Rattle.iloc_spec_grammar.specs.Syntax.{Text, Kind, Field, Fields, code_t, front, first_piece, languages}
use Rattle.iloc_spec_grammar.specs.Syntax.{Attribute, Variant, UnicodeKey, TransformKey, is_word, IsWord}
use Rattle.iloc_spec_grammar.specs.Syntax.{IsKeyword, IsField, is_one_byte, lower, word_cmp, fields_pieces}
use Rattle.iloc_spec_grammar.specs.Syntax.{AllDifferent}
use Rattle.iloc_spec_grammar.specs.Reading.{passing}
use Rattle.iloc_spec_grammar.specs.Computing.{is_block, repeats_variant}
use Rattle.iloc_pieces.specs.Cursor.{IsLater, IsPast, IsSpanned, piece_left, pieces_left, whole_text}
use Rattle.iloc_pieces.specs.Words.{word_number}
use Rattle.iloc_outline.specs.Parts.{Part, printed_part, word_part, field_part, in_order, block_parts}
use Rattle.iloc_outline.specs.Spans.{AddsParts}
use Rattle.iloc_spans.specs.Inserting.{IsTried}
use Rattle.iloc_spans.specs.Spans.{held_spans}
use Rattle.iloc_pieces.specs.declared.place.Cursor.{Cursor}
use Rattle.iloc_outline.specs.declared.reading.Found.{Found}
use Rattle.iloc_outline.specs.declared.reading.Found.TheVariants.{End, Next, Bad, Repeated, Full}
use Rattle.iloc_spans.specs.declared.span.Role.{Role}
use Rattle.iloc_spans.specs.declared.span.Role.TheVariants as roles
use Rattle.iloc_spans.specs.declared.span.Span.{Span}
use Rattle.iloc_spans.specs.declared.spans.Spans.{Spans}

-- a hyphen comes before l, and before that a singleton, whose hyphen stands at start
pub record FollowsSingleton (start : ℕ) (l : Cursor) : Type 0 where
  pub later : IsLater l
  pub before : start < l.at

-- the pieces ps were put as these parts; if the text is still in order, they are printed as they stand
pub record Puts (t : Text) (added : List Part) (ps : List Text) (old new : Spans) (o n : Bool) : Type 0 where
  pub adds : AddsParts t added old new
  pub few : length (held_spans new) ≤ length (held_spans old) + length ps
  pub order : n ≡ true → (o ≡ true) × (flat_map printed_part added ≡ map lower ps)

-- there is no room for what so many pieces may need
abbrev pub IsTooMuch : Spans → ℕ → Type 0
IsTooMuch old n = 64 < length (held_spans old) + n

-- room was refused for the spans that there are, and at most so many more
abbrev pub IsRoomRefused : (ℕ → Type 0) → Spans → ℕ → Type 0
IsRoomRefused Refused old n = RefusedWithin Refused (length (held_spans old) + n)

-- where each place is tried for a span of this role, room for one more was refused
abbrev pub IsRefusedIfTried : (ℕ → Type 0) → Role → Spans → Type 0
IsRefusedIfTried Refused role old = IsTried role → IsRoomRefused Refused old 1

-- Variants and attributes.

abbrev pub role_kind : Role → Kind
role_kind roles.Variant = Variant
role_kind _ = Attribute

-- variants and attributes are words
abbrev pub IsOfWord : Role → Type 0
IsOfWord roles.Variant = ⊤
IsOfWord roles.Attribute = ⊤
IsOfWord _ = ¬ ⊤

-- the words of a role that come first among the pieces
abbrev pub words_of : Role → List Text → List Text
words_of r ps = passing (is_word (role_kind r)) ps

-- the span of a word
abbrev pub word_span : Role → Cursor → Span
word_span r l = record {
  word = word_number (piece_left l);
  start = l.at - 1;
  end = l.at + l.piece_length;
  role = r;
  edited = false;
}

-- variants differ
abbrev pub MayBe : Role → List Text → Type 0
MayBe roles.Variant ps = AllDifferent word_cmp (map lower ps)
MayBe _ ps = ⊤

-- the words that come first were put in order
pub record ReadsWords (r : Role) (l : Cursor) (ps : List Text) (old new : Spans) (o n : Bool) : Type 0 where
  pub words : ps ≡ words_of r (pieces_left l)
  pub may_be : MayBe r ps
  pub puts : Puts (whole_text l) (in_order (map (word_part r) ps)) ps old new o n

-- from l on they were read, up to m where a piece is left
abbrev pub AreWordsRead : Role → Cursor → Cursor → Spans → Spans → Bool → Bool → Found → Type 0
AreWordsRead r l m old new o n End = ReadsWords r l (pieces_left l) old new o n
AreWordsRead r l m old new o n Next = (ps : List Text) × IsPast l m ps
    × (is_word (role_kind r) (piece_left m) ≡ false) × ReadsWords r l ps old new o n
AreWordsRead r l m old new o n Bad = ¬ ⊤
AreWordsRead r l m old new o n Repeated = (r ≡ roles.Variant)
    × ¬ (AllDifferent word_cmp (map lower (words_of r (pieces_left l))))
AreWordsRead r l m old new o n Full = IsTooMuch old (length (pieces_left l))

-- Keywords and fields.

abbrev pub role_key : Role → Kind
role_key roles.Field = TransformKey
role_key _ = UnicodeKey

-- keywords and fields have a key
abbrev pub IsOfField : Role → Type 0
IsOfField roles.Variant = ¬ ⊤
IsOfField roles.Attribute = ¬ ⊤
IsOfField roles.Keyword = ⊤
IsOfField roles.Field = ⊤
IsOfField roles.Singleton = ¬ ⊤

-- a keyword, or a field of `t`, which has a value
abbrev pub IsFieldOfRole : Role → Field → Type 0
IsFieldOfRole roles.Field f = IsField f
IsFieldOfRole _ f = IsKeyword f

-- fields that come first were put in order
pub record ReadsFields (r : Role) (l : Cursor) (fs : Fields) (old new : Spans) (o n : Bool) : Type 0 where
  pub each : AllByRecursion (IsFieldOfRole r) fs
  pub puts : Puts (whole_text l) (in_order (map (field_part r) fs)) (fields_pieces fs) old new o n

-- a key of `t` without a value comes after fields
pub record EndsInKey (ps : List Text) : Type 0 where
  pub fields : Fields
  pub each : AllByRecursion IsField fields
  pub key : Text
  pub is_key : IsWord TransformKey key
  pub rest : List Text
  pub cut : ps ≡ fields_pieces fields ++ (key ∷ rest)
  pub none : is_word Attribute (first_piece rest) ≡ false

-- from l on fields were read, up to m where a piece is left
abbrev pub AreFieldsRead : Role → Cursor → Cursor → Spans → Spans → Bool → Bool → Found → Type 0
AreFieldsRead r l m old new o n End =
    (fs : Fields) × (pieces_left l ≡ fields_pieces fs) × ReadsFields r l fs old new o n
AreFieldsRead r l m old new o n Next = (fs : Fields) × IsPast l m (fields_pieces fs)
    × (is_word (role_key r) (piece_left m) ≡ false)
    × ((fs ≡ []) ⊎ (is_word Attribute (piece_left m) ≡ false)) × ReadsFields r l fs old new o n
AreFieldsRead r l m old new o n Bad = (r ≡ roles.Field) × EndsInKey (pieces_left l)
AreFieldsRead r l m old new o n Repeated = ¬ ⊤
AreFieldsRead r l m old new o n Full = IsTooMuch old (length (pieces_left l))

-- What follows a singleton c.

-- the span of a singleton, and of what has no span of its own behind it
abbrev pub block_span : ℕ → ℕ → ℕ → Bool → Span
block_span word start end edited =
    record { word = word; start = start; end = end; role = roles.Singleton; edited = edited }

-- the block of the singleton and these pieces is good, and was put
pub record ReadsBlock (c : ℕ) (l : Cursor) (ps : List Text) (old new : Spans) (o n : Bool) : Type 0 where
  pub body : front (pieces_left l) ≡ ps
  pub good : is_block languages (c, ps) ≡ true
  pub puts : Puts (whole_text l) (block_parts (c, ps)) ((c ∷ []) ∷ ps) old new o n

-- what follows it from l on was read, up to m where another block follows
abbrev pub IsBody : ℕ → Cursor → Cursor → Spans → Spans → Bool → Bool → Found → Type 0
IsBody c l m old new o n End = ReadsBlock c l (pieces_left l) old new o n
IsBody c l m old new o n Next = (ps : List Text) × IsPast l m ps × (is_one_byte (piece_left m) ≡ true)
    × ReadsBlock c l ps old new o n
IsBody c l m old new o n Bad = (is_block languages (c, front (pieces_left l)) ≡ false)
    × ¬ ((to_ascii_lowercase c ≡ code_t) × (repeats_variant languages (front (pieces_left l)) ≡ true))
IsBody c l m old new o n Repeated = (to_ascii_lowercase c ≡ code_t)
    × (repeats_variant languages (front (pieces_left l)) ≡ true)
IsBody c l m old new o n Full = IsTooMuch old (1 + length (pieces_left l))

-- what a reader has: its cursor, the spans that were put, and whether they are in order
pub record Reader : Type 0 where
  pub cursor : Cursor
  pub spans : Spans
  pub in_order : Bool

abbrev pub reader_at : Cursor → Spans → Bool → Reader
reader_at l spans o = record { cursor = l; spans = spans; in_order = o }

-- so it was, whatever the case of the singleton, if its hyphen stands at start
abbrev pub IsBodyAt : ℕ → ℕ → Reader → Reader → Found → Type 0
IsBodyAt byte start from to r = (c : ℕ) → to_ascii_lowercase c ≡ byte
    → IsSpanned (whole_text from.cursor) start (from.cursor.at - 1) ((c ∷ []) ∷ [])
    → IsBody c from.cursor to.cursor from.spans to.spans from.in_order to.in_order r

-- the same of `x`, which takes all the rest
abbrev pub IsPrivateBody : ℕ → Cursor → Spans → Spans → Bool → Bool → Found → Type 0
IsPrivateBody c l old new o n End = (is_block languages (c, pieces_left l) ≡ true)
    × Puts (whole_text l) (block_parts (c, pieces_left l)) ((c ∷ []) ∷ pieces_left l) old new o n
IsPrivateBody c l old new o n Next = ¬ ⊤
IsPrivateBody c l old new o n Bad = is_block languages (c, pieces_left l) ≡ false
IsPrivateBody c l old new o n Repeated = ¬ ⊤
IsPrivateBody c l old new o n Full = IsTooMuch old (1 + length (pieces_left l))

-- such a span was put, and the text is in order only if it is not edited; or there was no room for it
abbrev pub IsPutOther : Span → Spans → Spans → Bool → Bool → Found → Found → Type 0
IsPutOther span old new o n good r = (r ≡ Full) × IsTooMuch old 1
    ⊎ (r ≡ good) × (held_spans new ≡ held_spans old ++ span ∷ [])
    × (n ≡ true → (o ≡ true) × (span.edited ≡ false))

-- m, unless the text ends before it
abbrev pub unless_end : Bool → Cursor → Option Cursor
unless_end true m = None
unless_end false m = Some m

-- if what is left is longer than a singleton, it is bad instead
abbrev pub EndsAtBlock : Cursor → Found → Found → Type 0
EndsAtBlock m Next Next = is_one_byte (piece_left m) ≡ true
EndsAtBlock m Next Bad = is_one_byte (piece_left m) ≡ false
EndsAtBlock m Next _ = ¬ ⊤
EndsAtBlock m r s = r ≡ s
