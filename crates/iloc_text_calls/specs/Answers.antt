-- What a caller finds after each call, by its status.
use Rattle.std.specs.Prelude.{◌≡◌, ◌⊎◌, ℕ, ◌<◌, length, Option}
use Rattle.iloc_spec_grammar.specs.Syntax.{Text, pieces, languages}
use Rattle.iloc_spec_grammar.specs.Meaning as meaning
use Rattle.iloc_locale.specs.LocaleReading.{NormalizingWantsMemory}
use Rattle.iloc_matching.specs.Range.{Matches}
use Rattle.iloc_cleaning.specs.Cleaning.{clean}
use Rattle.iloc_program.specs.Answers.{output}
use Rattle.iloc_normalize.specs.Modes.{IsNormalText}
use Rattle.iloc_normalize.specs.declared.Mode.{Mode}
use Rattle.iloc_normalize.specs.declared.Mode.TheVariants.{Locale}
use Rattle.iloc_calls.specs.Answers.{HandsOut, JudgedAs, MeansLocale, Tells}
use Rattle.iloc_calls.specs.declared.status.Status.{Status}
use Rattle.iloc_calls.specs.declared.status.Status.TheVariants.{Done, OutOfMemory, BufferTooSmall, NotFound}
use Rattle.iloc_text_parts.specs.declared.Part.{Part}
use Rattle.iloc_text_parts.specs.Parts.{IsPart}

-- the part of the locale that the text means is handed out, if there is one
abbrev pub TellsOfLocale : Mode → Text → Part → Text → Text → ℕ → Status → Type 0
TellsOfLocale mode t part before after needed status = (M : meaning.Locale) × MeansLocale mode t M
    × ((o : Option Text) × IsPart part M o × Tells o before after needed status)

-- the same; of a text with a fault nothing is handed out; memory may run out only for a text of
-- more than 48 bytes
abbrev pub TellsPart : Mode → Text → Part → Text → Text → ℕ → Status → Type 0
TellsPart mode t part before after needed Done = TellsOfLocale mode t part before after needed Done
TellsPart mode t part before after needed BufferTooSmall =
    TellsOfLocale mode t part before after needed BufferTooSmall
TellsPart mode t part before after needed NotFound =
    TellsOfLocale mode t part before after needed NotFound
TellsPart mode t part before after needed OutOfMemory = (48 < length t) × (needed ≡ 0)
    × (after ≡ before)
TellsPart mode t part before after needed status = JudgedAs mode t status × (needed ≡ 0)
    × (after ≡ before)

-- 1 is written if the normal text matches the normal range, and else 0; a refusal is of the text, or
-- else of the range; memory may run out for one whose parser may allocate, or that is not normal
abbrev pub MatchesTo : Text → Text → ℕ → ℕ → Status → Type 0
MatchesTo t range before after Done = (a b : Text) × IsNormalText languages Locale t a
    × IsNormalText languages Locale range b
    × (((after ≡ 1) × Matches (pieces a) (pieces b)) ⊎ ((after ≡ 0) × ¬ (Matches (pieces a) (pieces b))))
MatchesTo t range before after OutOfMemory =
    (NormalizingWantsMemory t ⊎ NormalizingWantsMemory range) × (after ≡ before)
MatchesTo t range before after status = (JudgedAs Locale t status
    ⊎ ((normal : Text) × IsNormalText languages Locale t normal × JudgedAs Locale range status))
    × (after ≡ before)

-- what cleaning leaves is handed out, unless memory ran out
abbrev pub CleansTo : Text → Text → Text → ℕ → Status → Type 0
CleansTo t before after needed OutOfMemory = (needed ≡ 0) × (after ≡ before)
CleansTo t before after needed status = HandsOut (clean t) before after needed status

-- the answers to the lines of the text are handed out, each line's normal text or `! ` and why it
-- has none, each with a newline; unless memory ran out
abbrev pub AnswersLines : Mode → Text → Text → Text → ℕ → Status → Type 0
AnswersLines mode t before after needed OutOfMemory = (needed ≡ 0) × (after ≡ before)
AnswersLines mode t before after needed status =
    HandsOut (output languages mode t) before after needed status
