-- What was read of a group up to some place: its words or fields, and the spans that stand for them.
use Rattle.std.specs.Prelude.{◌≡◌, ◌⊎◌, ℕ, ◌≤◌, Bool, true, false, List, [], ◌++◌, map, flat_map}
use Rattle.std.specs.List.{AllByRecursion, AllZip}
use Rattle.std.specs.Ordering.{nat_cmp}
use Rattle.iloc_spec_grammar.specs.Syntax.{Text, Fields, Attribute, AllDifferent, IsWord, is_word, lower}
use Rattle.iloc_spec_grammar.specs.Syntax.{fields_pieces}
use Rattle.iloc_pieces.specs.Cursor.{IsPast, piece_left, whole_text}
use Rattle.iloc_pieces.specs.Words.{word_number}
use Rattle.iloc_pieces.specs.declared.place.Cursor.{Cursor}
use Rattle.iloc_spans.specs.Inserting.{spans_in_order}
use Rattle.iloc_outline.specs.Parts.{Part, field_part, in_order, printed_part, word_part}
use Rattle.iloc_outline.specs.Reading.{IsFieldOfRole, role_kind}
use Rattle.iloc_outline.specs.Spans.{IsSpan}
use Rattle.iloc_spans.specs.declared.span.Role.{Role}
use Rattle.iloc_spans.specs.declared.span.Role.TheVariants as roles
use Rattle.iloc_spans.specs.declared.span.Span.{Span}

-- the pieces of parts
abbrev pub pieces_in : List Part → List Text
pieces_in ps = flat_map (λ p. p.pieces) ps

-- the parts were put in order, none of a number above the last; if n, they are printed as they stand
pub record Gathers (t : Text) (ps : List Part) (old new : List Span) (last : ℕ) (o n : Bool) : Type 0 where
  pub spans : List Span
  pub each : AllZip (IsSpan t) spans ps
  pub stand : new ≡ old ++ spans_in_order spans
  pub within : AllByRecursion (λ p. p.word ≤ last) ps
  pub order : n ≡ true → (o ≡ true) × (flat_map printed_part (in_order ps) ≡ map lower (pieces_in ps))

-- from l on these words were passed and put in order
pub record Walks (r : Role) (l at : Cursor) (old new : List Span) (last : ℕ) (o n : Bool) : Type 0 where
  pub words : List Text
  pub past : IsPast l at words
  pub each : AllByRecursion (IsWord (role_kind r)) words
  pub gathers : Gathers (whole_text l) (map (word_part r) words) old new last o n
  pub differ : r ≡ roles.Variant → AllDifferent nat_cmp (map word_number words)

-- from l on these fields were passed and put in order
pub record Takes (r : Role) (l at : Cursor) (old new : List Span) (last : ℕ) (o n : Bool) : Type 0 where
  pub fields : Fields
  pub past : IsPast l at (fields_pieces fields)
  pub each : AllByRecursion (IsFieldOfRole r) fields
  pub ends : (fields ≡ []) ⊎ (is_word Attribute (piece_left at) ≡ false)
  pub gathers : Gathers (whole_text l) (map (field_part r) fields) old new last o n
