-- What may stand after some pieces, so that an accepted text comes of it. This library's rule.
use Rattle.std.specs.Prelude.{◌≡◌, ◌↔◌, ℕ, true, List, [], ◌∷◌, ◌++◌, take}
use Rattle.iloc_spec_grammar.specs.Syntax.{Text, pieces}
use Rattle.iloc_normalize.specs.declared.Mode.{Mode}
use Rattle.iloc_faults.specs.Places.{IsAccepted, GoOn}
use Rattle.iloc_expected.specs.Kinds.{has, kind_at, place_after}
use Rattle.iloc_expected.specs.declared.kinds.Expected.{Expected}
use Rattle.iloc_expected.specs.declared.kinds.PieceKind.{PieceKind}
use Rattle.iloc_expected.specs.declared.kinds.PieceKind.TheVariants.{End}

-- the pieces, without the last one if that is empty: `en-` has one that counts, and the empty text
-- none
abbrev pub without_empty : List Text → List Text
without_empty [] = []
without_empty ([] ∷ []) = []
without_empty (p ∷ ps) = p ∷ without_empty ps

-- the pieces before a place of the text, or all of them if the place is behind the end
abbrev pub pieces_before : Text → ℕ → List Text
pieces_before t place = without_empty (pieces (take place t))

-- an accepted text has just these pieces
abbrev pub MayEnd : Mode → List Text → Type 0
MayEnd mode ps = (t : Text) × IsAccepted mode t × (pieces t ≡ ps)

-- an accepted text has these pieces, and then a piece of the kind
pub record HasNext (mode : Mode) (ps : List Text) (kind : PieceKind) : Type 0 where
  pub piece : Text
  pub go_on : GoOn mode (ps ++ (piece ∷ []))
  pub is_kind : kind_at (place_after ps) piece ≡ kind

-- the kind may stand after the pieces
abbrev pub MayStand : Mode → List Text → PieceKind → Type 0
MayStand mode ps End = MayEnd mode ps
MayStand mode ps kind = HasNext mode ps kind

-- the set has exactly the kinds that may stand after the pieces
abbrev pub AreExpected : Mode → List Text → Expected → Type 0
AreExpected mode ps set = (kind : PieceKind) → (has set kind ≡ true) ↔ MayStand mode ps kind
