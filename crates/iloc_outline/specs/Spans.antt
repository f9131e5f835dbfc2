-- Spans of a text, and the parts that they are.
use Rattle.std.specs.Prelude.{◌≡◌, ◌≢◌, List, [], ◌++◌, false, true, map}
use Rattle.std.specs.List.{AllByRecursion, AllZip}
use Rattle.iloc_spec_grammar.specs.Syntax.{Text, IsHyphenFree, lower}
use Rattle.iloc_pieces.specs.Cursor.{IsShortPiece, IsSpanned}
use Rattle.iloc_spans.specs.Spans.{held_spans}
use Rattle.iloc_outline.specs.Parts.{Part, printed_part}
use Rattle.iloc_spans.specs.declared.span.Span.{Span}
use Rattle.iloc_spans.specs.declared.spans.Spans.{Spans}

-- pieces of a text that are printed one by one: one at least, each of at most eight bytes
pub record AreShort (ps : List Text) : Type 0 where
  pub some : ps ≢ []
  pub hyphen_free : AllByRecursion IsHyphenFree ps
  pub short : AllByRecursion IsShortPiece ps

-- the span is the part of the text
pub record IsSpan (t : Text) (s : Span) (p : Part) : Type 0 where
  pub role : s.role ≡ p.role
  pub word : s.word ≡ p.word
  pub spanned : IsSpanned t s.start s.end p.pieces
  pub same : s.edited ≡ false → printed_part p ≡ map lower p.pieces
  pub short : s.edited ≡ true → AreShort p.pieces

-- they are these parts of the text
abbrev pub Spell : Text → Spans → List Part → Type 0
Spell t spans ps = AllZip (IsSpan t) (held_spans spans) ps

-- whatever parts they were of the text, they are these and the added ones now
abbrev pub AddsParts : Text → List Part → Spans → Spans → Type 0
AddsParts t added old new = (ps : List Part) → Spell t old ps → Spell t new (ps ++ added)
