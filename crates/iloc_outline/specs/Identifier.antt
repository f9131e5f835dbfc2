-- The front of an identifier: language, script and region, as it is read and as it is printed.
use Rattle.std.specs.Prelude.{◌≡◌, ℕ, zero, suc, ◌+◌, ◌-◌, ◌≤◌, ◌<◌, Bool, true, false, List, [], ◌∷◌, ◌++◌}
use Rattle.std.specs.Prelude.{take, drop, Option, Some, None}
use Rattle.iloc_spec_grammar.specs.Syntax.{Text, join, lower, upper}
use Rattle.iloc_spec_grammar.specs.Meaning.{normal_identifier}
use Rattle.iloc_spec_grammar.specs.Reading.{front_of, after_region}
use Rattle.iloc_pieces.specs.Cursor.{IsLater, IsNextPiece, IsPast, IsSpanned, piece_left, pieces_left}
use Rattle.iloc_pieces.specs.Cursor.{whole_text}
use Rattle.iloc_outline.specs.Parts.{front_pieces}
use Rattle.iloc_outline.specs.Reading.{unless_end}
use Rattle.iloc_outline.specs.declared.identifier.Front.{Front}
use Rattle.iloc_pieces.specs.declared.place.Cursor.{Cursor}

-- one piece was passed if it fits, and else none
abbrev pub IsOnePast : Bool → Cursor → Option Cursor → Type 0
IsOnePast true l None = pieces_left l ≡ piece_left l ∷ []
IsOnePast true l (Some m) = IsNextPiece l m
IsOnePast false l None = ¬ (Unit {0})
IsOnePast false l (Some m) = m ≡ l

-- n bytes from k on in upper case, if k is not 0
abbrev pub raised : ℕ → ℕ → Text → Text
raised n zero t = t
raised n (suc k) t = take (suc k) t ++ (upper (take n (drop (suc k) t)) ++ drop (suc k + n) t)

-- a text in lower case, but for the first letter of a script and a region of two letters
abbrev pub front_text : ℕ → ℕ → Text → Text
front_text script region t = raised 2 region (raised 1 script (lower t))

-- the words of the front of the identifier are passed, and what its variants are is left
abbrev pub IsAfterFront : Cursor → Option Cursor → Type 0
IsAfterFront l None = pieces_left l ≡ front_pieces (front_of (pieces_left l))
IsAfterFront l (Some m) = IsPast l m (front_pieces (front_of (pieces_left l)))
    × (pieces_left m ≡ after_region (pieces_left l))

-- it was read from l on, up to m where a piece is left
pub record IsFrontRead (l m : Cursor) (f : Front) : Type 0 where
  pub next : IsAfterFront l (unless_end f.is_all m)
  pub end : (start : ℕ) (qs : List Text) → IsLater l → IsSpanned (whole_text l) start (l.at - 1) qs
      → IsSpanned (whole_text l) start f.end (qs ++ front_pieces (front_of (pieces_left l)))
  -- at the beginning of a text: its bytes up to there are printed so
  pub inside : f.end ≤ l.at + l.remaining
  pub text : l.at ≡ 0 → take f.end (whole_text l) ≡ join (front_pieces (front_of (pieces_left l)))
  pub printed : l.at ≡ 0 → front_text f.script f.region (take f.end (whole_text l))
      ≡ join (front_pieces (normal_identifier (front_of (pieces_left l))))
  pub within : l.at ≡ 0 → (f.script < f.end) × (f.region + 1 < f.end)
