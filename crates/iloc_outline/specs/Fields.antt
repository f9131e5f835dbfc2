-- What the values of a key are.
use Rattle.std.specs.Prelude.{◌≡◌, ℕ, ◌-◌, Bool, false, List, ◌∷◌, ◌++◌, length, map, Option, Some, None}
use Rattle.std.specs.List.{AllByRecursion, list_any}
use Rattle.iloc_spec_grammar.specs.Syntax.{Text, Field, Attribute, is_word, IsWord, is_true, lower}
use Rattle.iloc_pieces.specs.Cursor.{IsPast, IsSpanned, piece_left, pieces_left, whole_text}
use Rattle.iloc_outline.specs.Parts.{printed_part, field_part}
use Rattle.iloc_outline.specs.Reading.{IsFieldOfRole, unless_end}
use Rattle.iloc_outline.specs.declared.fields.FieldValue.{FieldValue}
use Rattle.iloc_pieces.specs.declared.place.Cursor.{Cursor}
use Rattle.iloc_spans.specs.declared.span.Role.{Role}

-- after a key its values were passed, and a piece that is none is left, or nothing
abbrev pub IsAfterValues : Cursor → List Text → Option Cursor → Type 0
IsAfterValues key vs None = pieces_left key ≡ piece_left key ∷ vs
IsAfterValues key vs (Some m) =
    IsPast key m (piece_left key ∷ vs) × (is_word Attribute (piece_left m) ≡ false)

-- the values after a key, and m behind them
pub record IsValueRead (key m : Cursor) (v : FieldValue) : Type 0 where
  pub values : List Text
  pub each : AllByRecursion (IsWord Attribute) values
  pub next : IsAfterValues key values (unless_end v.is_end m)
  pub count : v.count ≡ length values
  pub trues : v.has_true ≡ list_any (λ w. is_true (lower w)) values
  pub end : (start : ℕ) (qs : List Text) → IsSpanned (whole_text key) start (key.at - 1) qs
      → IsSpanned (whole_text key) start v.end (qs ++ (piece_left key ∷ values))

-- so many values, of which one is `true` if so, are printed as they are
abbrev pub PrintsAsItIs : Role → ℕ → Bool → Type 0
PrintsAsItIs r n t =
    (f : Field) → IsFieldOfRole r f → n ≡ length f.1 → t ≡ list_any (λ w. is_true (lower w)) f.1
    → printed_part (field_part r f) ≡ map lower (f.0 ∷ f.1)
