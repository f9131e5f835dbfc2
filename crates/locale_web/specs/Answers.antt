-- What a caller of the module finds after each call, by its number.
use Rattle.std.specs.Prelude.{◌≡◌, ◌⊎◌, ℕ, ℤ, Option, Some, None, MatchOption}
use Rattle.std.specs.Ordering.{nat_cmp}
use Rattle.std.specs.Cmp.Lexicographic.{slice_cmp}
use Rattle.iloc_spec_grammar.specs.Syntax.{Text, languages}
use Rattle.iloc_spec_grammar.specs.Meaning as meaning
use Rattle.iloc_normalize.specs.Modes.{IsNormalText, IsFaulty}
use Rattle.iloc_normalize.specs.declared.Mode.{Mode}
use Rattle.iloc_calls.specs.Answers.{HandsOut, MeanSame, order_number}
use Rattle.iloc_calls.specs.Numbers.{number_of}
use Rattle.iloc_calls.specs.declared.status.Status.{Status}
use Rattle.iloc_calls.specs.declared.status.Status.TheVariants.{Done, InvalidLanguage, InvalidSubtag}
use Rattle.iloc_calls.specs.declared.status.Status.TheVariants.{InvalidExtension, DuplicatedExtension}
use Rattle.iloc_calls.specs.declared.status.Status.TheVariants.{BufferTooSmall}
use Rattle.locale_web.specs.Reading.{IsBeyondRoom}

-- the number of an answer: that of its status; none is beyond what is read
abbrev pub answer_number : Option Status → ℕ
answer_number (Some status) = number_of status
answer_number None = 9

-- the number is that of a status of which this holds, or 9 and that holds
abbrev pub EndsWithin : (Status → Type 0) → Type 0 → ℕ → Type 0
EndsWithin P Beyond number = (answer : Option Status) × (number ≡ answer_number answer)
    × MatchOption answer Beyond P

-- the status of a text: it means something, or has the fault of that name
abbrev pub IsJudged : Mode → Text → Status → Type 0
IsJudged mode t Done = (normal : Text) × IsNormalText languages mode t normal
IsJudged mode t InvalidLanguage = IsFaulty languages mode t meaning.InvalidLanguage
IsJudged mode t InvalidSubtag = IsFaulty languages mode t meaning.InvalidSubtag
IsJudged mode t InvalidExtension = IsFaulty languages mode t meaning.InvalidExtension
IsJudged mode t DuplicatedExtension = IsFaulty languages mode t meaning.DuplicatedExtension
IsJudged mode t _ = ⊥

-- the normal text is handed out; of a text with a fault nothing is
abbrev pub NormalIsWritten : Mode → Text → Text → Text → ℕ → Status → Type 0
NormalIsWritten mode t before after needed Done = (normal : Text)
    × IsNormalText languages mode t normal × HandsOut normal before after needed Done
NormalIsWritten mode t before after needed BufferTooSmall = (normal : Text)
    × IsNormalText languages mode t normal × HandsOut normal before after needed BufferTooSmall
NormalIsWritten mode t before after needed status =
    IsJudged mode t status × (needed ≡ 0) × (after ≡ before)

-- nothing is handed out, and the text is beyond what this room is for
abbrev pub NothingIsWritten : Mode → Text → ℕ → Text → Text → ℕ → Type 0
NothingIsWritten mode t room before after needed =
    IsBeyondRoom mode t room × (needed ≡ 0) × (after ≡ before)

-- one of two texts is beyond what its room is for
abbrev pub IsOneBeyond : Mode → Text → ℕ → Text → ℕ → Type 0
IsOneBeyond mode t n other m = IsBeyondRoom mode t n ⊎ IsBeyondRoom mode other m

-- the byte order of both normal texts is written; a fault is that of the first text, or else of the
-- other
abbrev pub OrderIsWritten : Mode → Text → Text → ℤ → ℤ → Status → Type 0
OrderIsWritten mode t other before after Done = (a b : Text) × IsNormalText languages mode t a
    × IsNormalText languages mode other b × (after ≡ order_number (slice_cmp nat_cmp a b))
OrderIsWritten mode t other before after status =
    (IsJudged mode t status
    ⊎ ((normal : Text) × IsNormalText languages mode t normal × IsJudged mode other status))
    × (after ≡ before)

-- 1 is written if the other text means what the text means, and else 0; a fault is that of the text
abbrev pub SameIsWritten : Mode → Text → Text → ℕ → ℕ → Status → Type 0
SameIsWritten mode t other before after Done =
    ((normal : Text) × IsNormalText languages mode t normal)
    × (((after ≡ 1) × MeanSame mode t other) ⊎ ((after ≡ 0) × ¬ (MeanSame mode t other)))
SameIsWritten mode t other before after status = IsJudged mode t status × (after ≡ before)
