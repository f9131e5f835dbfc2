-- Words and their spans.
use Rattle.std.proofs.Common.{◌≡◌, ℕ, ◌+◌, ◌-◌, ◌<◌, ◌≤◌, Bool, true, false, cond, List, [], ◌∷◌, ◌++◌, length, refl, ap, arith, append-nil}
use Rattle.std.specs.List.{AllByRecursion}
use Rattle.iloc_spec_grammar.specs.Syntax.{Text, Kind, IsWord, is_word, lower, first_piece}
use Rattle.iloc_spec_grammar.specs.Reading.{passing, EndsBefore}
use Rattle.iloc_spec_grammar.proofs.PiecesLaws.{at_pieces}
use Rattle.iloc_pieces.specs.Cursor.{IsLater, IsPast, IsShortPiece, IsSpanned, piece_left, pieces_left, bytes_left, whole_text}
use Rattle.iloc_pieces.specs.Words.{IsUpToEight, word_number}
use Rattle.iloc_outline.specs.Parts.{word_part, printed_part}
use Rattle.iloc_outline.specs.Reading.{IsOfWord, role_kind}
use Rattle.iloc_outline.specs.Spans.{IsSpan}
use Rattle.iloc_pieces.specs.declared.place.Cursor.{Cursor}
use Rattle.iloc_spans.specs.declared.span.Role.{Role}
use Rattle.iloc_spans.specs.declared.span.Role.TheVariants as roles
use Rattle.iloc_spans.specs.declared.span.Span.{Span}
use Rattle.iloc_pieces.proofs.CursorLemmas.{length_piece, length_text, spanned_piece}
use Rattle.iloc_outline.proofs.RoleLemmas.{short_kind}
use Rattle.iloc_pieces.proofs.WordOrder.{attribute_fits, variant_fits}
use Rattle.iloc_outline.proofs.SpansLemmas.{not_edited}

-- ---- words

-- a word has a number
pub word_fits : (r : Role) (p : Text) → IsWord (role_kind r) p → IsUpToEight p
word_fits roles.Variant p h = variant_fits p h
word_fits _ p h = attribute_fits p h

-- a word is printed in lower case
printed_word : (r : Role) → IsOfWord r → (p : Text) → printed_part (word_part r p) ≡ lower p ∷ []
printed_word roles.Variant h p = refl
printed_word roles.Attribute h p = refl
printed_word _ h p = absurd (h tt)

-- what passes the test comes first
pub passing_more : (test : Text → Bool) (ps rest : List Text) → AllByRecursion (λ p. test p ≡ true) ps
    → passing test (ps ++ rest) ≡ ps ++ passing test rest
passing_more test [] rest h = refl
passing_more test (p ∷ ps) rest h = search (passing_more test ps rest h.1)

-- up to what does not
pub passing_cut : (test : Text → Bool) (ps rest : List Text) → AllByRecursion (λ p. test p ≡ true) ps
    → EndsBefore test rest → passing test (ps ++ rest) ≡ ps
passing_cut test ps rest h e = grind (arith, passing_more, append-nil)

-- ---- pieces

-- some pieces are left
pub length-pieces_of : (l : Cursor) → 0 < length (pieces_left l)
length-pieces_of l = at_pieces (λ ps. 0 < length ps) (λ p ps. omega arith) (bytes_left l)

pub ends_before : (k : Kind) (l : Cursor) → is_word k (piece_left l) ≡ false
    → EndsBefore (is_word k) (pieces_left l)
ends_before k l = grind (arith, at_pieces)

-- a word that comes first
pub word_next : (k : Kind) (l : Cursor) → is_word k (piece_left l) ≡ true
    → (rest : List Text) × (passing (is_word k) (pieces_left l) ≡ piece_left l ∷ rest)
word_next k l =
    at_pieces
    (λ ps. is_word k (first_piece ps) ≡ true
    → (rest : List Text) × (passing (is_word k) ps ≡ first_piece ps ∷ rest))
    (λ p ps e. (passing (is_word k) ps, ap (λ b. cond b (p ∷ passing (is_word k) ps) []) e)) (bytes_left l)

-- a short piece after its hyphen
pub short_piece : (l : Cursor) → IsLater l → IsShortPiece (piece_left l)
    → IsSpanned (whole_text l) (l.at - 1) (l.at + l.piece_length) (piece_left l ∷ [])
short_piece l later short = search (length_piece, spanned_piece)

-- it ends within the text
pub end_within : (l at : Cursor) (ps : List Text) → IsPast l at ps → IsShortPiece (piece_left at)
    → at.at + at.piece_length ≤ l.at + l.remaining
end_within l at ps past short = grind (arith, short_piece, length_text)

-- the span of a word
abbrev pub span_of : Role → ℕ → Cursor → Span
span_of r n l = record { word = n; start = l.at - 1; end = l.at + l.piece_length; role = r; edited = false }

-- it is that part of the text
pub word_span : (r : Role) → IsOfWord r → (l : Cursor) → IsLater l →
    IsWord (role_kind r) (piece_left l)
    → (n : ℕ) → n ≡ word_number (piece_left l) →
    IsSpan (whole_text l) (span_of r n l) (word_part r (piece_left l))
word_span r role l k word n e = search (short_piece, short_kind, printed_word, not_edited)
