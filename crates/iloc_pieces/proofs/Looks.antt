-- The piece that marks tell, and the next one.
use Rattle.std.proofs.Common.{◌≡◌, ◌≢◌, ℕ, ◌+◌, ◌-◌, ◌<◌, ◌≤◌, [], ◌∷◌, ◌++◌, length, get_or, take, drop, refl, ap, ◌∙◌, arith, append-nil, ⊎_elim}
use Rattle.std.proofs.lemmas.List.{drop-drop, drop-take, get_or-drop, get_or-take, length-append, length-take, length-take-le, drop-append-le}
use Rattle.std.proofs.lemmas.Simd.{trailing_mask_l}
use Rattle.std.proofs.Math.Logic.{∥∥₁_map}
use lib.Count.{count_trailing_zeros}
use Rattle.iloc_spec_grammar.specs.Syntax.{Text, pieces, first_piece}
use Rattle.iloc_spec_grammar.proofs.PartTexts.{join-dashes}
use Rattle.iloc_pieces.specs.Cursor.{IsNextPiece, IsShortPiece, piece_left, pieces_left, bytes_left}
use Rattle.iloc_pieces.specs.Piece.{HasShape, IsLong}
use Rattle.iloc_pieces.specs.Marks.{AreMarks, AreKnown, AreMarksSeen, closed}
use Rattle.iloc_pieces.specs.Shape.{shape_of}
use Rattle.iloc_pieces.specs.declared.place.Cursor.{Cursor}
use Rattle.iloc_pieces.specs.declared.marks.Marks.{Marks}
use Rattle.iloc_pieces.proofs.Ends.{before, first_marked, first_unmarked, some_marked}
use Rattle.iloc_pieces.proofs.CursorLemmas.{first_within, first_cut, cut_after, length_piece, length_rest}

-- what is known is seen
pub seen_known : {rest : Text} {m : Marks} → AreKnown rest m → AreMarksSeen rest m
seen_known k = grind arith

-- where no hyphen is marked, the piece is long
pub long_piece : {rest : Text} {m : Marks} → AreMarksSeen rest m → m.ends ≡ 0 → IsLong rest 16 0
long_piece h k = grind (arith, first_within, length-append, first_unmarked)

module _ {rest : Text} {m : Marks} (s : AreMarksSeen rest m) (some : m.ends ≢ 0) where
  abbrev seen : Text
  seen = take s.known (closed rest)

  above : 0 < m.ends
  above = omega arith

  inside : before seen < s.known
  inside = grind (arith, before, some_marked, length-take)

  zeros : count_trailing_zeros 64 m.ends ≡ before seen
  zeros = grind (arith, length-take, trailing_mask_l)

  first : first_piece (pieces rest) ≡ take (before seen) seen
  first = first_marked rest s.known (omega (arith, s.marks.ends))

  -- a piece whose end is marked
  pub short_piece : (shape : ℕ) → shape ≡ shape_of (take (before seen) seen)
      → HasShape rest (count_trailing_zeros 64 m.ends) shape m
  short_piece shape is = grind (arith, before, some_marked, first, length-take-le, inside, zeros)

seam : (p q : Text) → get_or (p ++ 45 ∷ q) (length p) 0 ≡ 45
seam [] q = refl
seam (b ∷ p) q = seam p q

-- ---- the next piece

module _ (l : Cursor) (short : IsShortPiece (piece_left l)) (more : l.piece_length ≢ l.remaining) where
  abbrev past : ℕ
  past = l.piece_length + 1

  -- what is left behind the piece and its hyphen
  abbrev after : Text
  after = take (l.remaining - past) (drop (l.at + past) l.window.now)

  -- the text goes on behind the piece and its hyphen
  pub not_last : past ≤ l.remaining
  not_last = grind (arith, length_piece, length_rest, first_within)

  after_is : drop past (bytes_left l) ≡ after
  after_is =
      let parts : l.remaining ≡ past + (l.remaining - past) = omega (arith, not_last) in
      grind (arith, drop-take, drop-drop)

  cut : pieces_left l ≡ piece_left l ∷ pieces after
  cut = grind (arith, length_piece, first_cut, length_rest, not_last, after_is)

  text : bytes_left l ≡ piece_left l ++ 45 ∷ after
  text = cut_after (piece_left l ∷ []) (bytes_left l) after cut (λ e. cc)
      ∙ ap (λ p. p ++ 45 ∷ after) (join-dashes (piece_left l) [] ∙ append-nil (piece_left l))

  -- its marks
  pub next_seen : (r : Marks) → ((v : Text) → AreMarks v l.marks → AreMarks (drop past v) r) → r.ends ≢ 0
      → ∥ AreMarksSeen after r ∥₁
  next_seen r later some = ∥∥₁_map l.piece (⊎_elim
      (λ s.
      let parts : s.known ≡ past + (s.known - past) = omega (arith, s.enough) in
      grind (arith, inside, length_rest, not_last, drop-take, drop-append-le, after_is))
      (λ long. absurd (omega (arith, long.long))))

  -- what begins there is the next piece
  pub next_piece : (m : Cursor) → m.at ≡ l.at + past → m.remaining ≡ l.remaining - past
      → m.window.now ≡ l.window.now → IsNextPiece l m
  next_piece m at len window =
      let rest : bytes_left m ≡ after = λ j. take (len j) (drop (at j) (window j)) in
      let before : m.at - 1 ≡ l.at + l.piece_length = omega arith in
      grind (arith, not_last, get_or, before, get_or-drop, get_or-take, text, length_piece, seam, cut)
