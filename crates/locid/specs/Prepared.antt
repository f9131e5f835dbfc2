-- What is read in place of a line. This program's rule.
use Rattle.std.specs.Prelude.{◌≡◌, ℕ, ◌==◌, Bool, true, false, map, if◌then◌else◌}
use Rattle.iloc_spec_grammar.specs.Syntax.{Text}
use Rattle.iloc_cleaning.specs.Cleaning.{clean, without_mark}
use Rattle.iloc_program.specs.declared.numbered.Listing.{Listing}

-- A newline for each zero byte. Where lines end with zero bytes, newlines within come as zero bytes.
abbrev pub with_newlines : Text → Text
with_newlines t = map (λ b. if b == 0 then 10 else b) t

-- The line, with its newlines if lines end with zero bytes.
abbrev pub line_read : Bool → Text → Text
line_read false line = line
line_read true line = with_newlines line

-- What cleaning leaves of the line of this number, if it is asked for. The first line of an input
-- loses a byte order mark before.
abbrev pub IsCleaned : Bool → ℕ → Text → Text → Type 0
IsCleaned false n line t = t ≡ line
IsCleaned true n line t = t ≡ clean (if n == 1 then without_mark line else line)

-- The entry is that of what cleaning leaves of the line.
abbrev pub IsCleanedEntry : (Listing → ℕ → Text → Text → Type 0) → Bool
    → Listing → ℕ → Text → Text → Type 0
IsCleanedEntry IsEntry cleans listing n line entry =
    (t : Text) × IsCleaned cleans n line t × IsEntry listing n t entry

-- The entry is that of what is read in place of the line.
abbrev pub IsPrepared : (Listing → ℕ → Text → Text → Type 0) → Bool → Bool
    → Listing → ℕ → Text → Text → Type 0
IsPrepared IsEntry by_zero cleans listing n line entry =
    IsCleanedEntry IsEntry cleans listing n (line_read by_zero line) entry
