-- The numbers of modes and of statuses, and the words of statuses.
use Rattle.std.specs.Prelude.{◌≡◌, ◌<◌, ℕ, codes}
use Rattle.iloc_spec_grammar.specs.Syntax.{Text}
use Rattle.iloc_subtags.specs.declared.parse_error.ParseError.{ParseError}
use Rattle.iloc_subtags.specs.declared.parse_error.ParseError.TheVariants as refusals
use Rattle.iloc_subtags.specs.ParseError as refusals_words
use Rattle.iloc_normalize.specs.declared.Mode.{Mode}
use Rattle.iloc_normalize.specs.declared.Mode.TheVariants.{Langid, Locale, Data}
use Rattle.iloc_calls.specs.declared.status.Status.{Status}
use Rattle.iloc_calls.specs.declared.status.Status.TheVariants.{Done, InvalidLanguage, InvalidSubtag}
use Rattle.iloc_calls.specs.declared.status.Status.TheVariants.{InvalidExtension, DuplicatedExtension}
use Rattle.iloc_calls.specs.declared.status.Status.TheVariants.{OutOfMemory, BufferTooSmall, UnknownNumber}
use Rattle.iloc_calls.specs.declared.status.Status.TheVariants.{NotFound}

abbrev pub mode_number : Mode → ℕ
mode_number Langid = 0
mode_number Locale = 1
mode_number Data = 2

abbrev pub number_of : Status → ℕ
number_of Done = 0
number_of InvalidLanguage = 1
number_of InvalidSubtag = 2
number_of InvalidExtension = 3
number_of DuplicatedExtension = 4
number_of OutOfMemory = 5
number_of BufferTooSmall = 6
number_of UnknownNumber = 7
number_of NotFound = 8

-- the number is that of a status of which this holds
abbrev pub EndsAs : (Status → Type 0) → ℕ → Type 0
EndsAs P number = (status : Status) × (number ≡ number_of status) × P status

-- what a call answers to a number that stands for a value: of each value this holds, with the number
-- of the result; of a number above the last, the result is the number of `UnknownNumber`, and that
-- holds of what is written
pub record ByNumber {X : Type 0} (number_of_value : X → ℕ) (last number : ℕ)
    (IsKnown : X → ℕ → Type 0) (IsKept : Type 0) (result : ℕ) : Type 0 where
  pub known : (x : X) → number ≡ number_of_value x → IsKnown x result
  pub unknown : last < number → (result ≡ number_of UnknownNumber) × IsKept

-- the same to the number of a mode
abbrev pub ByMode : ℕ → (Mode → ℕ → Type 0) → Type 0 → ℕ → Type 0
ByMode = ByNumber mode_number 2

-- the same to the number of a status
abbrev pub ByStatus : ℕ → (Status → ℕ → Type 0) → Type 0 → ℕ → Type 0
ByStatus = ByNumber number_of 8

-- the status of a refusal
abbrev pub status_of : ParseError → Status
status_of refusals.InvalidLanguage = InvalidLanguage
status_of refusals.InvalidSubtag = InvalidSubtag
status_of refusals.InvalidExtension = InvalidExtension
status_of refusals.DuplicatedExtension = DuplicatedExtension
status_of refusals.OutOfMemory = OutOfMemory

-- the words of a refusal are the library's
abbrev pub words_of : Status → Text
words_of Done = codes "Done"
words_of InvalidLanguage = refusals_words.words_of refusals.InvalidLanguage
words_of InvalidSubtag = refusals_words.words_of refusals.InvalidSubtag
words_of InvalidExtension = refusals_words.words_of refusals.InvalidExtension
words_of DuplicatedExtension = refusals_words.words_of refusals.DuplicatedExtension
words_of OutOfMemory = refusals_words.words_of refusals.OutOfMemory
words_of BufferTooSmall = codes "Buffer too small"
words_of UnknownNumber = codes "Unknown number"
words_of NotFound = codes "Not found"
