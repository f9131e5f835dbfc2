-- What the states of the reader stand for: devices of its proof.
use Rattle.std.specs.Prelude.{◌≡◌, ◌≢◌, ◌↔◌, ℕ, zero, suc, ◌-◌, Bool, true, false, List, [], ◌∷◌, ◌++◌, length, map}
use Rattle.std.specs.Prelude.{nat_lt, Option, Some, None, ⊤, if◌then◌else◌}
use Rattle.std.specs.List.{list_any}
use Rattle.std.specs.Ordering.{eq_by_cmp}
use Rattle.std.specs.Char.{is_ascii_alphanumeric, to_ascii_lowercase}
use Rattle.std.specs.Int.{bit_at}
use Rattle.iloc_spec_grammar.specs.Syntax.{Text, pieces, dashes, Variant, is_word, lower, word_cmp}
use Rattle.iloc_spec_grammar.specs.Meaning as grammar
use Rattle.iloc_subtags.specs.Judging.{error_of}
use Rattle.iloc_pieces.specs.Cursor.{IsNextPiece, IsShortPiece, piece_left, pieces_left}
use Rattle.iloc_pieces.specs.declared.place.Cursor.{Cursor}
use Rattle.iloc_normalize.specs.declared.Mode.{Mode}
use Rattle.iloc_normalize.specs.declared.Mode.TheVariants.{Data}
use Rattle.iloc_faults.specs.declared.Fault.{Fault}
use Rattle.iloc_faults.specs.declared.state.Part.{Part}
use Rattle.iloc_faults.specs.declared.state.Part.TheVariants.{Head, Source}
use Rattle.iloc_faults.specs.declared.state.Stage.{Stage}
use Rattle.iloc_faults.specs.declared.state.Stage.TheVariants.{Language, Script, Region}
use Rattle.iloc_faults.specs.declared.state.State.{State}
use Rattle.iloc_faults.specs.Next.{Reached, started, is_seen, outcome, run}
use Rattle.iloc_faults.specs.Places.{IsFaultPlace}

-- the place of the bit of a singleton, in lower case: ten digits, then the letters
abbrev pub bit_place : ℕ → ℕ
bit_place c = if nat_lt c 97 then c - 48 else c - 87

-- the bits are those of these singletons
abbrev pub AreSingletonsSeen : ℕ → List ℕ → Type 0
AreSingletonsSeen bits seen = (c : ℕ) → is_ascii_alphanumeric c ≡ true
    → (bit_at bits (bit_place (to_ascii_lowercase c)) ≡ 1) ↔ (is_seen seen c ≡ true)

-- whether two words are the same
abbrev pub are_same : Text → Text → Bool
are_same = eq_by_cmp word_cmp

-- the variants with which the pieces begin
abbrev pub first_variants : List Text → List Text
first_variants [] = []
first_variants (p ∷ ps) = if is_word Variant p then p ∷ first_variants ps else []

-- the variants from the piece on
abbrev pub variants_left : Cursor → List Text
variants_left l = first_variants (pieces_left l)

-- after xs, so many of ys are new, each none of those before it; the next of ys, if there is one, is not
abbrev pub AreNew : {X : Type 0} → (X → X → Bool) → List X → List X → ℕ → Type 0
AreNew same xs [] n = ⊤
AreNew same xs (y ∷ ys) zero = list_any (same y) xs ≡ true
AreNew same xs (y ∷ ys) (suc n) = (list_any (same y) xs ≡ false) × AreNew same (xs ++ (y ∷ [])) ys n

-- so many of the variants from the piece on are new, after these; none follows in a data locale
abbrev pub AreNewFrom : Mode → List Text → Cursor → ℕ → Type 0
AreNewFrom mode vs at n = mode ≢ Data → AreNew are_same vs (map lower (variants_left at)) n

-- the variants before the piece, in lower case; if there are some, so many of those that follow are new
abbrev pub AreVariantsRead : Mode → Option ℕ → Cursor → List Text → Type 0
AreVariantsRead mode None at vs = vs ≡ []
AreVariantsRead mode (Some n) at vs = (vs ≢ []) × AreNewFrom mode vs at n

-- no variant comes before a region
abbrev pub IsEarly : Stage → Option ℕ → Type 0
IsEarly Language first = first ≡ None
IsEarly Script first = first ≡ None
IsEarly Region first = ⊤

abbrev pub HasNone : Part → Option ℕ → Type 0
HasNone (Head stage) first = IsEarly stage first
HasNone (Source stage) first = IsEarly stage first
HasNone part first = ⊤

-- before the piece, the state tells these variants and singletons
pub record IsRead (mode : Mode) (s : State) (at : Cursor) (vs : List Text) (seen : List ℕ) : Type 0 where
  pub seen_are : AreSingletonsSeen s.seen seen
  pub variants_are : AreVariantsRead mode s.variants at vs
  pub early : HasNone s.part s.variants

-- this was read
abbrev pub reached : Part → List Text → List ℕ → Reached
reached part vs seen = record { part = part; variants = vs; seen = seen }

-- what is read with the piece is o, and behind the piece the state tells it
abbrev pub IsPieceRead : Mode → Cursor → Option Reached → Option State → Type 0
IsPieceRead mode at o None = o ≡ None
IsPieceRead mode at o (Some s) = (vs : List Text) × (seen : List ℕ) × (o ≡ Some (reached s.part vs seen))
    × IsShortPiece (piece_left at) × ((m : Cursor) → IsNextPiece at m → IsRead mode s m vs seen)

-- the same of a word of an identifier
abbrev pub IsWordRead : Mode → Cursor → Option (Stage × List Text) → Option (Stage × Option ℕ) → Type 0
IsWordRead mode at o None = o ≡ None
IsWordRead mode at o (Some w) = (ws : List Text) × (o ≡ Some (w.0, ws)) × IsShortPiece (piece_left at)
    × IsEarly w.0 w.1 × ((m : Cursor) → IsNextPiece at m → AreVariantsRead mode w.1 m ws)

-- a state without variants
abbrev pub bare : ℕ → Part → State
bare bits part = record { part = part; variants = None; seen = bits }

-- so far each piece of the text came, and the state says what was read
pub record IsWalked (mode : Mode) (t : Text) (at : Cursor) (s : State) : Type 0 where
  pub done : List Text
  pub variants : List Text
  pub seen : List ℕ
  pub start : at.at ≡ length (dashes done)
  pub cut : pieces t ≡ done ++ pieces_left at
  pub ran : run mode (Some started) done ≡ Some (reached s.part variants seen)
  pub read : IsRead mode s at variants seen

-- the text has this outcome, and its place
pub record IsFaultFound (mode : Mode) (t : Text) (f : Fault) : Type 0 where
  pub fault : grammar.Fault
  pub has : outcome mode started (pieces t) ≡ Some fault
  pub refusal : f.refusal ≡ error_of fault
  pub place : IsFaultPlace mode t f.start f.end
