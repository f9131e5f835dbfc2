-- What is printed of an outline and of spans.
use Rattle.std.specs.Prelude.{ℕ, ◌+◌, ◌-◌, ◌≤◌, Bool, true, not, cond, List, length, map, filter, take, drop}
use Rattle.std.specs.Prelude.{slice_index}
use Rattle.std.specs.Char.{to_ascii_lowercase}
use Rattle.iloc_spec_grammar.specs.Syntax.{Text, Subtag, dashes, is_other_singleton, is_true, is_word, lower}
use Rattle.iloc_spec_grammar.specs.Syntax.{pieces}
use Rattle.iloc_outline.specs.Outlines.{Gives, parts_text}
use Rattle.iloc_outline.specs.Parts.{Part, printed_by}
use Rattle.iloc_outline.specs.Spans.{Spell}
use Rattle.iloc_outline.specs.declared.outline.Outline.{Outline}
use Rattle.iloc_spans.specs.declared.span.Role.{Role}
use Rattle.iloc_spans.specs.declared.span.Role.TheVariants.{Keyword, Field, Singleton, Variant}
use Rattle.iloc_spans.specs.declared.span.Span.{Span}
use Rattle.iloc_spans.specs.declared.spans.Spans.{Spans}

-- the bytes from one place to another
abbrev pub bytes_from : Text → ℕ → ℕ → Text
bytes_from t start end = take (end - start) (drop start t)

-- the bytes of a span behind its hyphen
abbrev pub behind_hyphen : Text → Span → Text
behind_hyphen t s = bytes_from t (s.start + 1) s.end

-- what is printed piece by piece of a part whose bytes are a hyphen and these
abbrev pub edited_text : Role → Text → Text
edited_text r p = dashes (printed_by r (pieces p))

-- what is printed of a span
abbrev pub span_text : Text → Span → Text
span_text t s = cond s.edited (edited_text s.role (bytes_from t (s.start + 1) s.end))
    (lower (bytes_from t s.start s.end))

-- spans spell parts whose text has room from a place on, and sixteen bytes more
pub record HasRoomForParts (t : Text) (spans : Spans) (start room : ℕ) : Type 0 where
  pub parts : List Part
  pub spell : Spell t spans parts
  pub fits : start + length (parts_text parts) + 16 ≤ room

-- they give a text that is no longer than the text
pub record GivesShort (t : Text) (o : Outline) (spans : Spans) : Type 0 where
  pub normal : Text
  pub gives : Gives t o spans normal
  pub few : length normal ≤ length t

-- of which role a part with this first piece is as it is printed: all pieces of a block are, but of
-- another extension
abbrev pub printed_role : Role → Text → Role
printed_role Singleton p =
    cond (is_other_singleton (to_ascii_lowercase (slice_index p 0))) Singleton Variant
printed_role r p = r

-- whether a piece behind the first is printed
abbrev pub is_kept : Role → Text → Bool
is_kept Keyword p = not (is_true (lower p))
is_kept Field p = not (is_true (lower p))
is_kept Singleton p = is_word Subtag p
is_kept _ p = true

-- the pieces that are printed behind the first
abbrev pub kept_pieces : Role → List Text → List Text
kept_pieces r ps = map lower (filter (is_kept r) ps)
