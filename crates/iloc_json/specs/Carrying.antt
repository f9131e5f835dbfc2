-- What carrying a row of old raw forms over answers. An old raw form is that of the table of
-- languages of two or three letters; the new one is that of the wider table (UTS #35 section 3.1,
-- `unicode_language_subtag`).
use Rattle.std.specs.Prelude.{◌≡◌, ◌≢◌, ℕ, ◌%◌, List, [], ◌∷◌, ◌++◌, length, ◌+◌, ◌*◌, ◌/◌}
use Rattle.std.specs.Prelude.{⊤, Result, Err}
use Rattle.std.specs.List.{flat_map, AllByRecursion}
use Rattle.iloc_spec_grammar.specs.Syntax.{Text, Language, languages, two_or_three, narrow_raw, wide_raw}
use Rattle.iloc_spec_grammar.specs.Values.{IsNormal}
use Rattle.iloc_memory.specs.Refusals.{RefusedWithin}
use Rattle.iloc_json.specs.declared.carry_error.CarryError.{CarryError}
use Rattle.iloc_json.specs.declared.carry_error.CarryError.TheVariants.{Length, Word, OutOfMemory}

-- the bytes are the old raw forms of these languages
pub record IsOldRow (row : Text) (ws : List Text) : Type 0 where
  pub normal : AllByRecursion (IsNormal (Language two_or_three)) ws
  pub bytes : row ≡ flat_map (narrow_raw (Language two_or_three)) ws

-- the new raw forms of these languages
abbrev pub new_row : List Text → Text
new_row ws = flat_map (wide_raw (Language languages)) ws

-- three bytes that are the old raw form of no language
abbrev pub IsBad : Text → Type 0
IsBad bytes = (length bytes ≡ 3)
    × ((w : Text) → IsNormal (Language two_or_three) w
    → narrow_raw (Language two_or_three) w ≢ bytes)

-- the row begins with the old raw forms of these languages, and this follows
abbrev pub BeginsWith : Text → List Text → Text → Type 0
BeginsWith row ws after = (before : Text) × IsOldRow before ws × (row ≡ before ++ after)

-- Why the row is refused. Memory may run out only if there is a word before the first bad one.
abbrev pub CannotCarry : Text → CarryError → Type 0
CannotCarry row Length = length row % 3 ≢ 0
CannotCarry row (Word n) = (length row % 3 ≡ 0) × (ws : List Text) × (bad : Text) × (after : Text)
    × BeginsWith row ws (bad ++ after) × (length ws ≡ n) × IsBad bad
CannotCarry row OutOfMemory = (length row % 3 ≡ 0) × (w : Text) × (after : Text)
    × BeginsWith row (w ∷ []) after

-- Memory runs out only if room for at most the bytes of the new row was refused: eight a word.
abbrev pub CarryingRunsOut : {X : Type 0} → (ℕ → Type 0) → Text → Result X CarryError → Type 0
CarryingRunsOut Refused row (Err OutOfMemory) = RefusedWithin Refused (length row / 3 * 8)
CarryingRunsOut Refused row _ = ⊤

-- so far: the words that were carried, and what is left
pub record SoFar (row rest out : Text) (count : ℕ) : Type 0 where
  pub words : List Text
  pub begins : BeginsWith row words rest
  pub new : out ≡ new_row words
  pub counted : length words ≡ count
  pub whole : length rest % 3 ≡ 0
  pub passed : 3 * count + length rest ≡ length row
  pub sized : length out ≡ 8 * count
