-- Lines of a text: it is cut at each newline, and a last line without one counts if it isn't empty.
-- This project's rule.
use Rattle.std.specs.Prelude.{◌≡◌, ◌≢◌, ◌⊎◌, ℕ, ◌+◌, ◌<◌, ◌≤◌, ◌==◌, List, [], ◌∷◌, ◌++◌, All, length, take}
use Rattle.std.specs.Prelude.{drop, if◌then◌else◌}
use Rattle.std.specs.List.{flat_map, AllByRecursion}
use Rattle.iloc_spec_grammar.specs.Syntax.{Text}

-- The byte c at the front of the first line, which it begins if there is none.
abbrev pub onto_first : ℕ → List Text → List Text
onto_first c [] = (c ∷ []) ∷ []
onto_first c (line ∷ lines) = (c ∷ line) ∷ lines

-- The lines of a text, each without its newline.
abbrev pub lines_of : Text → List Text
lines_of [] = []
lines_of (c ∷ cs) = if c == 10 then [] ∷ lines_of cs else onto_first c (lines_of cs)

-- The lines, each with its newline.
abbrev pub ended : List Text → Text
ended lines = flat_map (λ line. line ++ 10 ∷ []) lines

-- No newline is among the bytes.
abbrev pub IsOneLine : Text → Type 0
IsOneLine bytes = All (λ c. c ≢ 10) bytes

-- Lines that each end with a newline are read back.
abbrev pub ReadsEnded : Type 0
ReadsEnded = (lines : List Text) → AllByRecursion IsOneLine lines → lines_of (ended lines) ≡ lines

-- A last one without a newline that isn't empty is read back too.
abbrev pub ReadsOpen : Type 0
ReadsOpen = (lines : List Text) (last : Text) → AllByRecursion IsOneLine lines → IsOneLine last
    → last ≢ []
    → lines_of (ended lines ++ last) ≡ lines ++ last ∷ []

-- Every text is of the one or the other form.
abbrev pub IsEndedOrOpen : Type 0
IsEndedOrOpen = (text : Text) → (lines : List Text) × AllByRecursion IsOneLine lines
    × ((text ≡ ended lines)
    ⊎ ((last : Text) × IsOneLine last × (last ≢ []) × (text ≡ ended lines ++ last)))

-- The first newline stands there; or none does, and there are so many bytes.
pub record IsLineEnd (bytes : Text) (n : ℕ) : Type 0 where
  pub within : n ≤ length bytes
  pub before : IsOneLine (take n bytes)
  pub newline : n < length bytes → bytes ≡ take n bytes ++ 10 ∷ drop (n + 1) bytes
