-- What a caller of the module finds after `web_parts`, by its number.
use Rattle.std.specs.Prelude.{◌≡◌, ℕ, ◌≤◌, List, length, take}
use Rattle.iloc_spec_grammar.specs.Syntax.{Text, languages}
use Rattle.iloc_spec_grammar.specs.Meaning as meaning
use Rattle.iloc_spec_grammar.specs.Values.{text}
use Rattle.locale_web.specs.Kinds.{parts_of, rows_of}
use Rattle.iloc_normalize.specs.Modes.{IsNormalText}
use Rattle.iloc_normalize.specs.declared.Mode.{Mode}
use Rattle.iloc_calls.specs.Answers.{HandsOut, MeansLocale}
use Rattle.iloc_calls.specs.declared.status.Status.{Status}
use Rattle.iloc_calls.specs.declared.status.Status.TheVariants.{Done, BufferTooSmall}
use Rattle.locale_web.specs.Answers.{IsJudged}
use Rattle.locale_web.specs.Reading.{IsBeyondRoom}

-- the normal text of what the text means stands at the front of the room
pub record IsInRoom (mode : Mode) (t room : Text) (end : ℕ) (M : meaning.Locale) : Type 0 where
  pub meant : MeansLocale mode t M
  pub inside : end ≤ length room
  pub normal : IsNormalText languages mode t (take end room)
  pub text : take end room ≡ text M

-- it does, and the rows of its parts are handed out; of a text with a fault nothing is
abbrev pub PartsAreWritten : Mode → Text → Text → ℕ → List ℕ → List ℕ → ℕ → Status → Type 0
PartsAreWritten mode t room end before after needed Done = (M : meaning.Locale)
    × IsInRoom mode t room end M × HandsOut (rows_of (parts_of M)) before after needed Done
PartsAreWritten mode t room end before after needed BufferTooSmall = (M : meaning.Locale)
    × IsInRoom mode t room end M
    × HandsOut (rows_of (parts_of M)) before after needed BufferTooSmall
PartsAreWritten mode t room end before after needed status =
    IsJudged mode t status × (end ≡ 0) × (needed ≡ 0) × (after ≡ before)

-- nothing is handed out, and the text is beyond what this room is for
abbrev pub NoPartIsWritten : Mode → Text → ℕ → ℕ → List ℕ → List ℕ → ℕ → Type 0
NoPartIsWritten mode t room end before after needed =
    IsBeyondRoom mode t room × (end ≡ 0) × (needed ≡ 0) × (after ≡ before)
