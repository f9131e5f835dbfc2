-- What the pieces behind a head are.
use Rattle.std.proofs.Common.{◌≡◌, ℕ, true, false, List, [], ◌∷◌, slice_index, Err, ap, ◌∙◌, arith}
use Rattle.std.specs.Char.{is_ascii_alphanumeric}
use Rattle.std.proofs.lemmas.Bool.{eqb-true}
use Rattle.iloc_spec_grammar.specs.Syntax.{Text, is_one_byte, pieces, first_piece}
use Rattle.iloc_spec_grammar.specs.Meaning.{Fault, InvalidExtension, InvalidSubtag}
use Rattle.iloc_spec_grammar.specs.Reading.{rest_of}
use Rattle.iloc_spec_grammar.proofs.PiecesLaws.{at_pieces}
use Rattle.iloc_spec_parts.specs.Small.{SmallIdentifier}
use Rattle.iloc_spec_parts.specs.SmallComputing.{block_fault, blocks_result, is_u}
use Rattle.iloc_pieces.specs.Cursor.{IsNextPiece, bytes_left, piece_left, pieces_left}
use Rattle.iloc_pieces.specs.declared.place.Cursor.{Cursor}
use Rattle.iloc_pieces.proofs.CursorLemmas.{next_at}
use Rattle.iloc_normalize.specs.Data.{IsDataBehind}
use Rattle.iloc_normalize.specs.Subdivisions.{IsKeywordRead, data_behind}
use Rattle.iloc_normalize.specs.declared.data.Data.TheVariants as datas
use Rattle.iloc_normalize.specs.declared.data.DataHead.{DataHead}
use Rattle.iloc_normalize.specs.declared.subdivisions.Keyword.TheVariants as keywords
use Rattle.iloc_normalize.specs.declared.subdivisions.SubdivisionValue.{SubdivisionValue}
use Rattle.iloc_normalize.proofs.Behind.{no_key_behind, no_attribute, no_word_key}
use Rattle.iloc_normalize.proofs.FrontAnswers.{other_fault}
use Rattle.iloc_normalize.proofs.BlockFaults.{no_letter_no_u, unlettered_fault}
use Rattle.iloc_outline.proofs.SingletonSteps.{one_byte}

single_first : (t : Text) → is_one_byte (first_piece (pieces t)) ≡ true
    → pieces t ≡ (slice_index (first_piece (pieces t)) 0 ∷ []) ∷ rest_of (pieces t)
single_first t = grind (arith, at_pieces, slice_index, one_byte)

-- a block of another singleton than `u` has its own fault
other_block : (r : SmallIdentifier) (c : ℕ) (ps : List Text) (f : Fault) → is_u c ≡ false
    → ((qs : List Text) → block_fault (c, qs) ≡ f) → data_behind r ((c ∷ []) ∷ ps) ≡ Err f
unfolding blocks_result
other_block r c ps f other fault = grind arith

module _ (h : DataHead) (l : Cursor) (single : is_one_byte (piece_left l) ≡ true) where
  abbrev c : ℕ
  c = slice_index (piece_left l) 0

  there : pieces_left l ≡ (c ∷ []) ∷ rest_of (pieces_left l)
  there = single_first (bytes_left l) single

  -- no letter and no digit
  pub unlettered : is_ascii_alphanumeric c ≡ false → (r : SmallIdentifier)
      → data_behind r (pieces_left l) ≡ Err InvalidExtension
  unlettered e r =
      ap (data_behind r) there
      ∙ other_block r c (rest_of (pieces_left l)) InvalidExtension (no_letter_no_u c e)
      (λ qs. unlettered_fault (c, qs) e)

  -- another letter or digit
  pub other_letter : is_ascii_alphanumeric c ≡ true → is_u c ≡ false → (r : SmallIdentifier)
      → data_behind r (pieces_left l) ≡ Err InvalidSubtag
  other_letter e n r =
      ap (data_behind r) there
      ∙ other_block r c (rest_of (pieces_left l)) InvalidSubtag n (λ qs. other_fault (c, qs) e n)

  module _ (u : is_u c ≡ true) where
    -- nothing follows
    pub u_alone : pieces_left l ≡ piece_left l ∷ [] → (r : SmallIdentifier)
        → data_behind r (pieces_left l) ≡ Err InvalidExtension
    u_alone last r = grind (arith, there, no_key_behind, no_attribute, no_word_key)

    module _ (m : Cursor) (n : IsNextPiece l m) where
      before : pieces_left l ≡ (c ∷ []) ∷ pieces_left m
      before = there ∙ ap (λ ps. (c ∷ []) ∷ rest_of ps) n.pieces

      pub named_read : (v : SubdivisionValue) → IsKeywordRead m (keywords.Named v)
          → IsDataBehind h l (datas.Named h v)
      named_read v k = grind (arith, before, eqb-true, next_at)
