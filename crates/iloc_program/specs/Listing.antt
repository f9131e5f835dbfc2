-- What is written for one line of a listing: its normal text, or why it is refused, with the number
-- of the line before and the place of the fault behind, if that is asked. This library's rule.
use Rattle.std.specs.Prelude.{◌≡◌, ◌⊎◌, ℕ, ◌-◌, ◌/◌, ◌%◌, ◌≤◌, ◌==◌, ◌||◌, nat_lt, Bool, false, [], ◌∷◌}
use Rattle.std.specs.Prelude.{◌++◌, length, take, drop, if◌then◌else◌}
use Rattle.std.specs.List.{flat_map}
use Rattle.std.specs.Fmt.{decimal, digit_glyph}
use Rattle.iloc_spec_grammar.specs.Syntax.{Text, languages}
use Rattle.iloc_normalize.specs.Modes.{IsNormalText}
use Rattle.iloc_normalize.specs.declared.Mode.{Mode}
use Rattle.iloc_faults.specs.Places.{IsFault}
use Rattle.iloc_faults.specs.declared.Fault.{Fault}
use Rattle.iloc_program.specs.Answers.{refusal_text}
use Rattle.iloc_program.specs.declared.numbered.Listing.{Listing}

-- A byte by its two digits: `\x`, and the digits in base 16.
abbrev pub byte_escape : ℕ → Text
byte_escape b = 92 ∷ 120 ∷ digit_glyph false (b / 16) ∷ digit_glyph false (b % 16) ∷ []

-- A byte as it is shown: printable ASCII is itself, a tab is `\t`, a backslash is `\\`.
abbrev pub shown_byte : ℕ → Text
shown_byte b = if b == 9 then 92 ∷ 116 ∷ [] else
    if b == 92 then 92 ∷ 92 ∷ [] else
    if nat_lt b 32 then byte_escape b else
    if nat_lt 126 b then byte_escape b else b ∷ []

-- Whether a byte is shown otherwise than as itself.
abbrev pub is_escaped : ℕ → Bool
is_escaped b = nat_lt b 32 || nat_lt 126 b || b == 92

-- A text as it is shown, which stays one line without tabs.
abbrev pub shown : Text → Text
shown t = flat_map shown_byte t

-- The fault stands within the line.
abbrev pub StandsWithin : Text → Fault → Type 0
StandsWithin line f = (f.start ≤ f.end) × (f.end ≤ length line)

-- The piece at which the fault stands.
abbrev pub faulty_piece : Text → Fault → Text
faulty_piece line f = take (f.end - f.start) (drop f.start line)

-- A tab, a range of bytes, and a tab.
abbrev pub range_column : ℕ → ℕ → Text
range_column start end = 9 ∷ decimal start ++ (46 ∷ 46 ∷ decimal end ++ 9 ∷ [])

-- The range of the bytes at which the fault stands, and the piece.
abbrev pub place_columns : Text → Fault → Text
place_columns line f = range_column f.start f.end ++ shown (faulty_piece line f)

-- The number of the line, and a tab.
abbrev pub number_column : ℕ → Text
number_column n = decimal n ++ 9 ∷ []

-- What is written for a refused line.
abbrev pub refused_entry : Listing → ℕ → Text → Fault → Text
refused_entry l n line f = (if l.numbers then number_column n else [])
    ++ (refusal_text f.refusal ++ ((if l.places then place_columns line f else []) ++ 10 ∷ []))

-- What is written for an accepted line that has this normal text.
abbrev pub accepted_entry : Listing → Text → Text
accepted_entry l normal = if l.only_refused then [] else normal ++ 10 ∷ []

-- The text is written for the line of this number.
abbrev pub IsEntry : Mode → Listing → ℕ → Text → Text → Type 0
IsEntry mode l n line t =
    ((normal : Text) × IsNormalText languages mode line normal × (t ≡ accepted_entry l normal))
    ⊎ ((f : Fault) × IsFault mode line f × (t ≡ refused_entry l n line f))

-- The listing for which nothing is asked.
abbrev pub nothing_asked : Listing
nothing_asked = record { places = false; numbers = false; only_refused = false }
