-- What a key and its only value name.
use Rattle.std.proofs.Common.{inl, inr, arith}
use Rattle.iloc_spec_grammar.specs.Syntax.{UnicodeKey, IsWord}
use Rattle.iloc_spec_grammar.proofs.WordsLaws.{length-unicode_key}
use Rattle.iloc_pieces.specs.Cursor.{piece_left, pieces_left}
use Rattle.iloc_pieces.specs.declared.place.Cursor.{Cursor}
use Rattle.iloc_pieces.proofs.CursorLemmas.{first_within, length_rest, piece_bytes}
use Rattle.iloc_normalize.specs.Subdivisions.{IsKeywordRead, IsNamedBy, IsOnly}
use Rattle.iloc_normalize.specs.declared.subdivisions.Keyword.{Keyword}
use Rattle.iloc_normalize.specs.declared.subdivisions.Keyword.TheVariants as keywords
use Rattle.iloc_normalize.proofs.Behind.{named_pieces, unnamed_pieces}

pub keyword_named : (key m : Cursor) → IsWord UnicodeKey (piece_left key) → IsOnly key m → (k : Keyword)
    → IsNamedBy key m k
    → IsKeywordRead key k
keyword_named key m w h keywords.Misfit n = absurd n
keyword_named key m w h keywords.Unnamed (inl other) =
    unnamed_pieces (pieces_left key) w h.small (inl other)
keyword_named key m w h keywords.Unnamed (inr none) = grind (arith, unnamed_pieces)
keyword_named key m w h (keywords.Named v) n =
    grind (arith, length-unicode_key, length_rest, first_within, piece_bytes, named_pieces)
