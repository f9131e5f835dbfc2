-- What is written for the lines of an input, each by its number. What is written for one line, its
-- entry, is for the caller to say. This library's rule.
use Rattle.std.specs.Prelude.{◌≡◌, ℕ, ◌+◌, List, [], ◌∷◌, ◌++◌, length, Option, IfSome}
use Rattle.std.specs.Io.{StartsWith}
use Rattle.std.specs.Io.KnownBytes.{Appends, Consumes, IsAtEnd}
use Rattle.iloc_spec_grammar.specs.Syntax.{Text}
use Rattle.iloc_program.specs.Lines.{lines_of}

-- A text that meets this was added.
abbrev pub AddsText : (Text → Type 0) → Text → Text → Type 0
AddsText Meets old new = (added : Text) × Meets added × (new ≡ old ++ added)

-- The entries of lines that are numbered from n on, one after the other.
abbrev pub AreEntries : (ℕ → Text → Text → Type 0) → ℕ → List Text → Text → Type 0
AreEntries IsEntry n [] written = written ≡ []
AreEntries IsEntry n (line ∷ lines) written = (entry : Text) × (rest : Text)
    × IsEntry n line entry × AreEntries IsEntry (n + 1) lines rest × (written ≡ entry ++ rest)

-- The listing of an input: the entries of its lines.
abbrev pub IsListing : (ℕ → Text → Text → Type 0) → ℕ → Text → Text → Type 0
IsListing IsEntry n input written = AreEntries IsEntry n (lines_of input) written

-- The text begins the entries of the first lines of the input.
pub record BeginsListing (IsEntry : ℕ → Text → Text → Type 0) (n : ℕ) (input written : Text)
    : Type 0 where
  pub lines : List Text
  pub later : List Text
  pub entries : Text
  pub are_first : lines_of input ≡ lines ++ later
  pub are_entries : AreEntries IsEntry n lines entries
  pub begins : StartsWith entries written

-- From one moment to another a reader gave all that it had, and a writer took the listing of it. So
-- many lines have a number now.
pub record ListsAll (IsEntry : ℕ → Text → Text → Type 0) (n : ℕ)
    (unread unread' held held' : Option Text) (next : ℕ) : Type 0 where
  pub read : Text
  pub written : Text
  pub reads : Consumes unread unread' read
  pub all_read : IsAtEnd unread'
  pub writes : Appends held held' written
  pub is_listing : IsListing IsEntry n read written
  pub counts : next ≡ n + length (lines_of read)

-- From one moment to another a writer took a beginning of the listing of what a reader gave, which
-- is also one of the listing of that and all that is left.
pub record ListsBeginning (IsEntry : ℕ → Text → Text → Type 0) (n : ℕ)
    (unread unread' held held' : Option Text) : Type 0 where
  pub read : Text
  pub written : Text
  pub reads : Consumes unread unread' read
  pub writes : Appends held held' written
  pub begins : BeginsListing IsEntry n read written
  pub begins_all : IfSome unread' (λ left. BeginsListing IsEntry n (read ++ left) written)
