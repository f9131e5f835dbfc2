-- What the walks over the pieces of a normal text keep.
use Rattle.std.proofs.Common.{◌≡◌, ℕ, suc, ◌+◌, ◌*◌, ◌≤◌, List, [], ◌∷◌, ◌++◌, length, take, drop, refl, sym, ap, ◌∙◌, subst, arith, append_assoc, append-nil, length-append, length-drop, take_all}
use Rattle.std.proofs.lemmas.List.{take_at, drop_at, drop-drop}
use Rattle.iloc_spec_grammar.specs.Syntax.{Text, pieces, first_piece}
use Rattle.iloc_spec_grammar.specs.Meaning.{Locale}
use Rattle.iloc_spec_grammar.proofs.PiecesLaws.{at_pieces}
use Rattle.iloc_pieces.specs.Cursor.{IsNextPiece, IsShortPiece, bytes_left, piece_left, pieces_left}
use Rattle.iloc_pieces.specs.declared.place.Cursor.{Cursor}
use Rattle.iloc_pieces.proofs.CursorLemmas.{first_within, last_piece, length_piece, length_rest, next_at}
use Rattle.locale_web.specs.Kinds.{KindedPiece, IsNormalTextOf, kind_number, parts_of, rows_from, rows_of}
use Rattle.locale_web.specs.Steps.{AreShortPieces, step, kinded}
use Rattle.locale_web.specs.declared.state.State.{State}
use Rattle.locale_web.specs.declared.state.State.TheVariants.{Start}
use Rattle.locale_web.proofs.Kinded.{text_kinded}

-- ---- a piece that is left

-- the first of short pieces is short
pub first_short : (l : Cursor) → AreShortPieces (pieces_left l) → IsShortPiece (piece_left l)
first_short l h = at_pieces (λ ps. AreShortPieces ps → IsShortPiece (first_piece ps)) (λ p ps h. h.0)
    (bytes_left l) h

whole : (t : Text) (l : Cursor) → bytes_left l ≡ take (length t) t → pieces_left l ≡ pieces t
whole t l e = ap pieces (e ∙ take_all (length t) t (omega arith))

-- ---- counting

-- so many pieces were counted, up to this one
pub record IsCounted (t : Text) (at : Cursor) (count : ℕ) : Type 0 where
  pub short : AreShortPieces (pieces_left at)
  pub sum : count + length (pieces_left at) ≡ length (pieces t) + 1
  pub few : count ≤ at.at + 1
  pub end : at.at + at.remaining ≡ length t

pub count_begins : (t : Text) (at : Cursor) → AreShortPieces (pieces t) → at.at ≡ 0
    → at.remaining ≡ length t → bytes_left at ≡ take (length t) t → IsCounted t at 1
count_begins t at h a n e =
    let w = whole t at e in
    record {
      short = subst AreShortPieces (sym w) h;
      sum = omega (arith, ap length w);
      few =
          omega arith;
      end = omega arith;
    }

pub count_ends : {t : Text} {at : Cursor} {count : ℕ} → IsCounted t at count → at.piece_length ≡ at.remaining
    → count ≡ length (pieces t)
count_ends {t} {at} {count} c e =
    let one = last_piece at e (first_short at c.short) in
    omega (arith, c.sum, ap length one.one)

length_kinded : (s : State) (ps : List Text) → length (kinded s ps) ≡ length ps
length_kinded s [] = refl
length_kinded s (p ∷ ps) = ap suc (length_kinded (step s p).1 ps)

-- a normal text has as many pieces as its locale has parts
pub as_many : (M : Locale) (t : Text) → IsNormalTextOf M t → length (pieces t) ≡ length (parts_of M)
as_many M t h = sym (length_kinded Start (pieces t)) ∙ ap length (text_kinded M t h).kinded

-- ---- writing

-- three numbers of each part
length_rows : (at : ℕ) (ps : List KindedPiece) → length (rows_from at ps) ≡ 3 * length ps
length_rows at [] = refl
length_rows at (p ∷ ps) = omega (arith, length_rows (at + length p.1 + 1) ps)

pub length_rows_of : (ps : List KindedPiece) → length (rows_of ps) ≡ 3 * length ps
unfolding rows_of
length_rows_of ps = length_rows 0 ps

-- the rows up to this piece stand in the table, and what was behind them still does
pub record IsWritten (t : Text) (at : Cursor) (s : State) (from : ℕ) (before table : Text) : Type 0 where
  pub short : AreShortPieces (pieces_left at)
  pub done : Text
  pub long : length done ≡ from
  pub rows : rows_from 0 (kinded Start (pieces t)) ≡ done ++ rows_from at.at (kinded s (pieces_left at))
  pub stands : table ≡ done ++ drop from before
  pub fits : from + 3 * length (pieces_left at) ≤ length before
  pub end : at.at + at.remaining ≡ length t

pub write_begins : (M : Locale) (t : Text) (at : Cursor) (before : Text) → IsNormalTextOf M t
    → length (rows_of (parts_of M)) ≤ length before
    → at.at ≡ 0 → at.remaining ≡ length t → bytes_left at ≡ take (length t) t
    → IsWritten t at Start 0 before before
unfolding rows_of
write_begins M t at before h room a n e =
    let w = whole t at e in
    record {
      short = subst AreShortPieces (sym w) (text_kinded M t h).short;
      done = [];
      long = refl;
      rows = λ j. rows_from (sym a j) (kinded Start (sym w j));
      stands = refl;
      fits = omega (arith, room, length_rows 0 (parts_of M), as_many M t h, ap length w);
      end = omega arith;
    }

module _ {t : Text} {at : Cursor} {s : State} {from : ℕ} {before table : Text}
    (h : IsWritten t at s from before table) where
  -- the three numbers of this piece
  abbrev row : Text → Text
  row rest = at.at ∷ (at.at + at.piece_length) ∷ kind_number (step s (piece_left at)).0 ∷ rest

  long_is : at.piece_length ≡ length (piece_left at)
  long_is = length_piece at (first_short at h.short)

  -- the table with them
  stands_more : (after : Text) → after ≡ take from table ++ row (drop (from + 3) table)
      → after ≡ (h.done ++ row []) ++ drop (from + 3) before
  stands_more after e =
      let front : take from table ≡ h.done = ap (take from) h.stands
      ∙ take_at h.done (drop from before) from h.long in
      let back : drop from table ≡ drop from before = ap (drop from) h.stands
      ∙ drop_at h.done (drop from before) from h.long in
      let far : drop (from + 3) table ≡ drop (from + 3) before =
      sym (drop-drop 3 from table) ∙ ap (drop 3) back ∙ drop-drop 3 from before in
      e ∙ (λ j. front j ++ row (far j)) ∙ sym (append_assoc h.done (row []) (drop (from + 3) before))

  rows_more : (ps : List Text) → pieces_left at ≡ piece_left at ∷ ps → rows_from 0 (kinded Start (pieces t))
      ≡ (h.done ++ row []) ++ rows_from (at.at + length (piece_left at) + 1)
      (kinded (step s (piece_left at)).1 ps)
  rows_more ps e =
      h.rows ∙ ap (λ l. h.done ++ rows_from at.at (kinded s l)) e
      ∙ ap (λ n. h.done ++ (at.at ∷ (at.at + n) ∷ kind_number (step s (piece_left at)).0 ∷ rows_from
      (at.at + length (piece_left at) + 1) (kinded (step s (piece_left at)).1 ps))) (sym long_is)
      ∙ sym (append_assoc h.done (row []) _)

  pub row_fits : from + 3 ≤ length table
  row_fits = at_pieces (λ ps. from + 3 * length ps ≤ length before → from + 3 ≤ length table) (λ p ps f.
      omega (
        arith,
        f,
        ap length h.stands,
        length-append h.done (drop from before),
        length-drop from before,
        h.long,
      )) (bytes_left at) h.fits

  -- the piece ends within the text
  pub ends_within : at.at + at.piece_length ≤ length t
  ends_within = omega (arith, h.end, long_is, length_rest at, first_within (bytes_left at))

  pub write_on : {m : Cursor} (after : Text) → after ≡ take from table ++ row (drop (from + 3) table)
      → IsNextPiece at m
      → IsWritten t m (step s (piece_left at)).1 (from + 3) before after
  write_on {m} after e n =
      let w = subst AreShortPieces n.pieces h.short in
      record {
        short = w.1;
        done = h.done ++ row [];
        long = omega (arith, h.long, length-append h.done (row []));
        rows = rows_more (pieces_left m) n.pieces
            ∙ ap (λ k. (h.done ++ row []) ++ rows_from k (kinded (step s (piece_left at)).1 (pieces_left m)))
            (sym (next_at at m n));
        stands = stands_more after e;
        fits = omega (arith, h.fits, ap length n.pieces);
        end = omega (arith, h.end, n.end);
      }

  -- all rows
  pub write_ends : (after : Text) → after ≡ take from table ++ row (drop (from + 3) table)
      → at.piece_length ≡ at.remaining
      → (M : Locale) → IsNormalTextOf M t
      → after ≡ rows_of (parts_of M) ++ drop (length (rows_of (parts_of M))) before
  unfolding rows_of
  write_ends after e last M is =
      let one = last_piece at last (first_short at h.short) in
      let all : rows_from 0 (parts_of M) ≡ h.done ++ row [] =
      ap (rows_from 0) (sym (text_kinded M t is).kinded) ∙ rows_more [] one.one
      ∙ append-nil (h.done ++ row []) in
      let long : length (rows_from 0 (parts_of M)) ≡ from + 3 =
      omega (arith, ap length all, h.long, length-append h.done (row [])) in
      stands_more after e ∙ (λ j. sym all j ++ drop (sym long j) before)
