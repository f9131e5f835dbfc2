-- What was read once the last piece is read too.
use Rattle.std.proofs.Common.{◌≡◌, ◌≢◌, ℕ, ◌+◌, Bool, not, is_some, true, false, List, [], ◌∷◌, ◌++◌, length, take, Option, Some, None, refl, sym, ap, ◌∙◌, subst, append-nil, arith}
use Rattle.std.proofs.lemmas.Bool.{cases_Bool}
use Rattle.iloc_spec_grammar.specs.Syntax.{Text, pieces, join, is_word}
use Rattle.iloc_spec_grammar.proofs.PiecesLaws.{pieces-join, pieces_nonempty}
use Rattle.iloc_pieces.specs.Cursor.{IsShortPiece, piece_left, pieces_left, bytes_left}
use Rattle.iloc_pieces.specs.declared.place.Cursor.{Cursor}
use Rattle.iloc_pieces.proofs.CursorLemmas.{last_piece, length_piece}
use Rattle.iloc_normalize.specs.declared.Mode.{Mode}
use Rattle.iloc_faults.specs.Next.{started, next, run}
use Rattle.iloc_faults.specs.States.{AreVariantsRead, first_variants, variants_left, reached}
use Rattle.iloc_faults.specs.declared.state.Part.{Part}
use Rattle.iloc_faults.specs.Places.{GoOn}
use Rattle.iloc_faults.proofs.Going.{goes_no_longer}
use Rattle.iloc_faults.proofs.VariantsLeft.{some_left}
use Rattle.iloc_expected.specs.declared.reading.Reading.{Reading}
use Rattle.iloc_expected.specs.Standing.{without_empty}
use Rattle.iloc_expected.specs.Readings.{IsPieceTaken, IsReading, IsReadUpTo, IsReadOn, IsStopped, AreRead}
use Rattle.iloc_expected.proofs.Walk.{piece_free, ran_one, reading_is, without_end, with_piece, no_more}

-- ---- the last piece with a hyphen behind it

-- its bytes
pub again_bytes : (at again : Cursor) (slice all : Text) → IsShortPiece (piece_left at) →
    slice ≡ piece_left at → bytes_left again ≡ take (at.piece_length + 1) all →
    take (length slice + 1) all ≡ slice ++ 45 ∷ [] → bytes_left again ≡ piece_left at ++ 45 ∷ []
again_bytes at again slice all short cut e f = grind (arith, length_piece)

module _ (at again : Cursor) (short : IsShortPiece (piece_left at)) (end : at.piece_length ≡ at.remaining)
    (bytes : bytes_left again ≡ piece_left at ++ 45 ∷ []) where
  -- it is followed by an empty piece
  pub two_left : pieces_left again ≡ piece_left at ∷ [] ∷ []
  unfolding join
  two_left = ap pieces bytes ∙ pieces-join (piece_left at) ([] ∷ []) (piece_free at, (refl, tt))

  same_variants : (p : Text) → first_variants (p ∷ []) ≡ first_variants (p ∷ [] ∷ [])
  unfolding is_word
  same_variants p = grind (arith, cases_Bool)

  variants_same : variants_left at ≡ variants_left again
  variants_same = grind (arith, last_piece, same_variants, two_left)

  are_read : (mode : Mode) (o : Option ℕ) (vs : List Text) → AreVariantsRead mode o at vs →
      AreVariantsRead mode o again vs
  are_read mode o vs h = grind (arith, variants_same)

  pub read_again : {mode : Mode} {ps : List Text} {r : Reading} → IsReadUpTo mode ps at r →
      IsReadUpTo mode ps again r
  read_again h = grind (arith, are_read)

  module _ (mode : Mode) (ps : List Text) where
    pub none_again : IsStopped mode ps again → ¬ (GoOn mode (ps ++ (piece_left at ∷ [])))
    none_again s = by s.done (sym two_left ∙ s.cut) s.stops
      where
        by : (done : List Text) → piece_left at ∷ [] ∷ [] ≡ done ++ (s.piece ∷ s.rest) →
            run mode (Some started) ((ps ++ done) ++ (s.piece ∷ [])) ≡ None →
            ¬ (GoOn mode (ps ++ (piece_left at ∷ [])))
        by [] e stops =
            let same : piece_left at ≡ s.piece = cc in
            let one : (ps ++ []) ++ (s.piece ∷ []) ≡ ps ++ (piece_left at ∷ []) =
            ap (λ qs. qs ++ (s.piece ∷ [])) (append-nil ps) ∙ ap (λ q. ps ++ (q ∷ [])) (sym same) in
            goes_no_longer mode (ps ++ (piece_left at ∷ [])) (ap (run mode (Some started)) (sym one) ∙ stops)
        by (d ∷ []) e stops =
            let z : s.piece ≡ [] = cc in let f : s.rest ≡ [] = cc in absurd (s.counts z f)
        by (d ∷ f ∷ []) e stops = cc
        by (d ∷ f ∷ g ∷ done) e stops = cc

    pub some_again : (r : Reading) (last : Cursor) → IsReadOn mode ps again last r
        → last.piece_length ≡ last.remaining →
        IsReading mode (ps ++ (piece_left at ∷ [])) r
    some_again r last h n = by h.done (sym two_left ∙ h.cut) h.up_to
      where
        by : (done : List Text) → piece_left at ∷ [] ∷ [] ≡ done ++ pieces_left last →
            IsReadUpTo mode (ps ++ done) last r → IsReading mode (ps ++ (piece_left at ∷ [])) r
        by [] e u =
            let rest = some_left last in
            let first : piece_left at ∷ [] ∷ [] ≡ piece_left last ∷ rest.0 = e ∙ rest.1 in
            let same : piece_left at ≡ piece_left last = cc in
            let one = (last_piece last n (subst IsShortPiece same short)).one in
            let two : piece_left at ∷ [] ∷ [] ≡ piece_left last ∷ [] = e ∙ one in cc
        by (d ∷ []) e u =
            let same : d ≡ piece_left at = cc in
            subst (λ (q : Text). IsReading mode (ps ++ (q ∷ [])) r) same (reading_is u)
        by (d ∷ f ∷ []) e u =
            let none : [] ≡ pieces_left last = cc in absurd (pieces_nonempty (bytes_left last) (sym none))
        by (d ∷ f ∷ g ∷ done) e u = cc

-- ---- whether the piece was read

module _ (mode : Mode) (keyed : Bool) (part : Part) (vs : List Text) (seen : List ℕ) (at : Cursor) where
  pub piece_none : (o : Option Reading) (b : Bool) → is_some o ≡ not b → b ≡ true →
      IsPieceTaken mode keyed part vs seen at o → next mode (reached part vs seen) (piece_left at) ≡ None
  piece_none o b h k e = grind arith

  pub piece_short : (o : Option Reading) (b : Bool) → is_some o ≡ not b → b ≡ false →
      IsPieceTaken mode keyed part vs seen at o → IsShortPiece (piece_left at)
  piece_short o b h k e = grind arith

-- ---- all pieces

module _ (mode : Mode) (t : Text) (from last : Cursor) (r : Reading) (all : pieces_left from ≡ pieces t)
    (h : IsReadOn mode [] from last r) where
  -- the last piece is empty
  pub empty_is : last.remaining ≡ 0 → IsReading mode (without_empty (pieces t)) r
  unfolding pieces
  empty_is e = grind (arith, without_end, reading_is)

  some_last : last.piece_length ≡ last.remaining → last.remaining ≢ 0 → piece_left last ≢ []
  some_last n m e =
      let short : IsShortPiece (piece_left last) = omega (arith, ap length e) in
      let l = length_piece last short in m (omega (arith, ap length e))

  pub refused_is : last.piece_length ≡ last.remaining → last.remaining ≢ 0 →
      next mode (reached r.state.part h.up_to.variants h.up_to.seen) (piece_left last) ≡ None →
      ¬ (GoOn mode (without_empty (pieces t)))
  refused_is n m e =
      let rest = some_left last in
      no_more mode h.done (piece_left last) (without_empty rest.0) (without_empty (pieces t))
      (grind (arith, with_piece, some_last))
      (ran_one h.up_to (piece_left last) None e)

  pub all_is : last.piece_length ≡ last.remaining → last.remaining ≢ 0 → IsShortPiece (piece_left last)
      → (o : Option Reading) →
      AreRead mode (h.done ++ (piece_left last ∷ [])) o → AreRead mode (without_empty (pieces t)) o
  all_is n m short o = grind (arith, last_piece, with_piece, some_last)
