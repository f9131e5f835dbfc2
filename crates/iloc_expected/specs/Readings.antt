-- What the reader of the pieces before a place has read: devices of its proof.
use Rattle.std.specs.Prelude.{◌≡◌, ◌↔◌, ℕ, ◌≤◌, Bool, true, false, ◌&&◌, ◌||◌, List, [], ◌∷◌, ◌++◌, length}
use Rattle.std.specs.Prelude.{Option, Some, None, ◌+◌, ◌≢◌, not}
use Rattle.std.specs.List.{AllByRecursion, list_any}
use Rattle.iloc_spec_grammar.specs.Syntax.{Text, code_t, code_u, code_x, is_word, is_other_singleton}
use Rattle.iloc_spec_grammar.specs.Syntax.{TransformKey, UnicodeKey, IsHyphenFree}
use Rattle.iloc_pieces.specs.Cursor.{piece_left, pieces_left}
use Rattle.iloc_pieces.specs.declared.place.Cursor.{Cursor}
use Rattle.iloc_normalize.specs.declared.Mode.{Mode}
use Rattle.iloc_normalize.specs.declared.Mode.TheVariants.{Langid, Locale, Data}
use Rattle.iloc_faults.specs.Places.{GoOn}
use Rattle.iloc_faults.specs.Next.{started, next, may_end, takes_any, run}
use Rattle.iloc_faults.specs.States.{AreSingletonsSeen, reached}
use Rattle.iloc_faults.specs.States.{IsPieceRead as IsStatePieceRead, IsRead as IsStateRead}
use Rattle.iloc_faults.specs.declared.state.Part.{Part}
use Rattle.iloc_faults.specs.declared.state.Part.TheVariants.{Start, Head, Transform, Source, FieldKey}
use Rattle.iloc_faults.specs.declared.state.Part.TheVariants.{FieldValue, Unicode, Keyword, Other, OtherWord}
use Rattle.iloc_faults.specs.declared.state.Part.TheVariants.{Private, PrivateWord, Subdivision}
use Rattle.iloc_faults.specs.declared.state.Part.TheVariants.{SubdivisionKey, SubdivisionValue}
use Rattle.iloc_faults.specs.declared.state.Stage.{Stage}
use Rattle.iloc_faults.specs.declared.state.Stage.TheVariants.{Language, Script, Region}
use Rattle.iloc_expected.specs.Kinds.{Place, AtBeginning, InIdentifier, InExtension, place_after, has}
use Rattle.iloc_expected.specs.declared.reading.Reading.{Reading}
use Rattle.iloc_expected.specs.declared.kinds.PieceKind.{PieceKind}
use Rattle.iloc_expected.specs.declared.kinds.PieceKind.TheVariants as kinds

-- the part is read at the place: `keyed` says whether a key of `u` was read
abbrev pub IsReadAt : Part → Bool → Place → Type 0
IsReadAt Start keyed w = (w ≡ AtBeginning) × (keyed ≡ false)
IsReadAt (Head stage) keyed w = (w ≡ InIdentifier) × (keyed ≡ false)
IsReadAt Transform keyed w = (w ≡ InExtension code_t []) × (keyed ≡ false)
IsReadAt (Source stage) keyed w = (q : Text) × (qs : List Text) × (w ≡ InExtension code_t (q ∷ qs))
    × (list_any (is_word TransformKey) (q ∷ qs) ≡ false) × (keyed ≡ false)
IsReadAt FieldKey keyed w = (q : Text) × (qs : List Text) × (w ≡ InExtension code_t (q ∷ qs))
    × (list_any (is_word TransformKey) (q ∷ qs) ≡ true) × (keyed ≡ false)
IsReadAt FieldValue keyed w = (q : Text) × (qs : List Text) × (w ≡ InExtension code_t (q ∷ qs))
    × (list_any (is_word TransformKey) (q ∷ qs) ≡ true) × (keyed ≡ false)
IsReadAt Unicode keyed w = (w ≡ InExtension code_u []) × (keyed ≡ false)
IsReadAt Keyword keyed w = (qs : List Text) × (w ≡ InExtension code_u qs)
    × (list_any (is_word UnicodeKey) qs ≡ keyed)
IsReadAt Other keyed w = (c : ℕ) × (qs : List Text) × (w ≡ InExtension c qs)
    × (is_other_singleton c ≡ true) × (keyed ≡ false)
IsReadAt OtherWord keyed w = (c : ℕ) × (qs : List Text) × (w ≡ InExtension c qs)
    × (is_other_singleton c ≡ true) × (keyed ≡ false)
IsReadAt Private keyed w = (qs : List Text) × (w ≡ InExtension code_x qs) × (keyed ≡ false)
IsReadAt PrivateWord keyed w = (qs : List Text) × (w ≡ InExtension code_x qs) × (keyed ≡ false)
IsReadAt Subdivision keyed w = (w ≡ InExtension code_u []) × (keyed ≡ false)
IsReadAt SubdivisionKey keyed w = (qs : List Text) × (w ≡ InExtension code_u qs)
    × (list_any (is_word UnicodeKey) qs ≡ true) × (keyed ≡ false)
IsReadAt SubdivisionValue keyed w = (qs : List Text) × (w ≡ InExtension code_u qs)
    × (list_any (is_word UnicodeKey) qs ≡ true) × (keyed ≡ false)

-- these pieces were read
pub record IsReading (mode : Mode) (ps : List Text) (r : Reading) : Type 0 where
  pub variants : List Text
  pub seen : List ℕ
  pub free : AllByRecursion IsHyphenFree ps
  pub ran : run mode (Some started) ps ≡ Some (reached r.state.part variants seen)
  pub seen_are : AreSingletonsSeen r.state.seen seen
  pub none_are : (r.state.variants ≡ None) ↔ (variants ≡ [])
  pub few : length variants ≤ length ps
  pub place : IsReadAt r.state.part r.keyed (place_after ps)

-- they were read, or no accepted text begins with them
abbrev pub AreRead : Mode → List Text → Option Reading → Type 0
AreRead mode ps None = ¬ (GoOn mode ps)
AreRead mode ps (Some r) = IsReading mode ps r

-- whether a key of `u` was read in its extension, with the piece too; the part is that with the piece
abbrev pub keyed_after : Bool → Part → Text → Bool
keyed_after keyed Keyword p = keyed || is_word UnicodeKey p
keyed_after keyed _ p = false

-- what is read with the piece is so, and behind the piece the state tells it
abbrev pub IsPieceTaken : Mode → Bool → Part → List Text → List ℕ → Cursor → Option Reading → Type 0
IsPieceTaken mode keyed part vs seen at None = next mode (reached part vs seen) (piece_left at) ≡ None
IsPieceTaken mode keyed part vs seen at (Some r) = IsStatePieceRead mode at
    (next mode (reached part vs seen) (piece_left at)) (Some r.state)
    × (r.keyed ≡ keyed_after keyed r.state.part (piece_left at))

-- up to the piece these were read
pub record IsReadUpTo (mode : Mode) (ps : List Text) (at : Cursor) (r : Reading) : Type 0 where
  pub variants : List Text
  pub seen : List ℕ
  pub free : AllByRecursion IsHyphenFree ps
  pub ran : run mode (Some started) ps ≡ Some (reached r.state.part variants seen)
  pub read : IsStateRead mode r.state at variants seen
  pub few : length variants ≤ length ps
  pub place : IsReadAt r.state.part r.keyed (place_after ps)

-- after the pieces, one of those from the piece on may not come, and it is no empty piece at the end
pub record IsStopped (mode : Mode) (ps : List Text) (from : Cursor) : Type 0 where
  pub done : List Text
  pub piece : Text
  pub rest : List Text
  pub cut : pieces_left from ≡ done ++ (piece ∷ rest)
  pub counts : piece ≡ [] → rest ≢ []
  pub stops : run mode (Some started) ((ps ++ done) ++ (piece ∷ [])) ≡ None

-- after the pieces, those from the piece on were read, up to the last
pub record IsReadOn (mode : Mode) (ps : List Text) (from last : Cursor) (r : Reading) : Type 0 where
  pub done : List Text
  pub cut : pieces_left from ≡ done ++ pieces_left last
  pub up_to : IsReadUpTo mode (ps ++ done) last r

abbrev pub IsAllRead : Mode → List Text → Cursor → Option (Reading × Cursor) → Type 0
IsAllRead mode ps from None = IsStopped mode ps from
IsAllRead mode ps from (Some (r, last)) = IsReadOn mode ps from last r × (last.piece_length ≡ last.remaining)

-- whether an extension may begin after the part; `left`, whether a singleton is left
abbrev pub may_begin_block : Mode → Part → Bool → Bool
may_begin_block Langid part left = false
may_begin_block Locale part left = may_end part && (not (takes_any part) && left)
may_begin_block Data (Head stage) left = true
may_begin_block Data part left = false

-- whether a variant may come after words of an identifier: a data locale has one; `none`, whether
-- none was read
abbrev pub has_variant : Mode → Bool → Bool
has_variant Data none = none
has_variant _ none = true

abbrev pub may_have_variant : Mode → Part → Bool → Bool
may_have_variant mode (Head stage) none = has_variant mode none
may_have_variant mode (Source stage) none = has_variant mode none
may_have_variant mode _ none = false

-- the bits of script and region, if they may come after words up to this stage
abbrev pub word_bits : Stage → ℕ
word_bits Language = 6
word_bits Script = 4
word_bits Region = 0

-- the bits of the other kinds that may come after the part, by their numbers
abbrev pub piece_bits : Part → Bool → ℕ
piece_bits Start keyed = 1
piece_bits (Head stage) keyed = word_bits stage
piece_bits Transform keyed = 257
piece_bits (Source stage) keyed = word_bits stage + 256
piece_bits FieldKey keyed = 2048
piece_bits FieldValue keyed = 2304
piece_bits Unicode keyed = 96
piece_bits Keyword true = 192
piece_bits Keyword false = 96
piece_bits Other keyed = 512
piece_bits OtherWord keyed = 512
piece_bits Private keyed = 1024
piece_bits PrivateWord keyed = 1024
piece_bits Subdivision keyed = 64
piece_bits SubdivisionKey keyed = 128
piece_bits SubdivisionValue keyed = 128

-- whether a piece of the kind may come after the part
abbrev pub may_come : Mode → Part → (keyed none left : Bool) → PieceKind → Bool
may_come mode part keyed none left kinds.Variant = may_have_variant mode part none
may_come mode part keyed none left kinds.Singleton = may_begin_block mode part left
may_come mode part keyed none left kinds.End = may_end part
may_come mode part keyed none left kind = has (record { bits = piece_bits part keyed }) kind
