-- What is left of a text, from a piece on.
use Rattle.std.specs.Prelude.{◌≡◌, ◌≢◌, ℕ, ◌+◌, ◌-◌, ◌≤◌, ◌<◌, List, [], ◌∷◌, ◌++◌, length, take, drop}
use Rattle.std.specs.Prelude.{slice_index}
use Rattle.iloc_spec_grammar.specs.Syntax.{Text, pieces, first_piece, join, dashes}
use Rattle.iloc_pieces.specs.declared.place.Cursor.{Cursor}

-- the bytes that are left
abbrev pub bytes_left : Cursor → Text
bytes_left l = take l.remaining (drop l.at l.window.now)

-- their pieces
abbrev pub pieces_left : Cursor → List Text
pieces_left l = pieces (bytes_left l)

-- the first of them
abbrev pub piece_left : Cursor → Text
piece_left l = first_piece (pieces_left l)

-- a piece that may be a word
abbrev pub IsShortPiece : Text → Type 0
IsShortPiece p = length p ≤ 8

-- the whole text
abbrev pub whole_text : Cursor → Text
whole_text l = take (l.at + l.remaining) l.window.now

-- a hyphen comes before the piece
pub record IsLater (l : Cursor) : Type 0 where
  pub after : 0 < l.at
  pub hyphen : slice_index l.window.now (l.at - 1) ≡ 45

-- m is one piece further than l
pub record IsNextPiece (l m : Cursor) : Type 0 where
  pub later : IsLater m
  pub less : m.remaining < l.remaining
  pub window : m.window.now ≡ l.window.now
  pub end : m.at + m.remaining ≡ l.at + l.remaining
  pub rest : bytes_left l ≡ piece_left l ++ 45 ∷ bytes_left m
  pub pieces : pieces_left l ≡ piece_left l ∷ pieces_left m

-- the bytes of the text from start to end are these pieces, each after a hyphen
pub record IsSpanned (t : Text) (start end : ℕ) (ps : List Text) : Type 0 where
  pub ascends : start ≤ end
  pub inside : end ≤ length t
  pub bytes : take (end - start) (drop start t) ≡ dashes ps

-- from l to m these pieces are passed
pub record IsPast (l m : Cursor) (ps : List Text) : Type 0 where
  pub later : IsLater m
  pub less : m.remaining ≤ l.remaining
  pub window : m.window.now ≡ l.window.now
  pub end : m.at + m.remaining ≡ l.at + l.remaining
  pub text : whole_text m ≡ whole_text l
  pub pieces : pieces_left l ≡ ps ++ pieces_left m
  pub spanned : IsLater l → (start : ℕ) (qs : List Text) → IsSpanned (whole_text l) start (l.at - 1) qs
      → IsSpanned (whole_text l) start (m.at - 1) (qs ++ ps)
  pub rest : ps ≢ [] → bytes_left l ≡ join ps ++ 45 ∷ bytes_left m

-- l is the last piece
pub record IsEnd (l : Cursor) : Type 0 where
  pub all : l.piece_length ≡ l.remaining
  pub one : pieces_left l ≡ piece_left l ∷ []
