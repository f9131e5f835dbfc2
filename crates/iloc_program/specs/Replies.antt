-- What was written of a line behind the replies before it.
use Rattle.std.specs.Prelude.{◌≡◌, ℕ, ◌+◌, ◌≤◌, [], ◌∷◌, ◌++◌, length, Option, Some, None, IfSome, Result, OnOk}
use Rattle.iloc_spec_grammar.specs.Syntax.{Text, languages}
use Rattle.iloc_subtags.specs.declared.parse_error.ParseError.{ParseError}
use Rattle.iloc_normalize.specs.Modes.{IsNormalText}
use Rattle.iloc_program.specs.Answers.{reply, output}
use Rattle.iloc_program.specs.Lines.{IsOneLine}
use Rattle.iloc_memory.specs.Refusals.{RefusedWithin}
use Rattle.iloc_program.specs.ReplyBlock.{room_for, WasRefused}
use Rattle.iloc_normalize.specs.Answered.{HasRefusal, refusal_of}
use Rattle.iloc_normalize.specs.declared.Mode.{Mode}
use Rattle.iloc_normalize.specs.declared.writing.Written.{Written}
use Rattle.iloc_normalize.specs.declared.writing.Written.TheVariants.{Normal}

-- the normal text in the mode and a newline stand behind what was held; or nothing more does, and a
-- refusal is that of the line
abbrev pub IsReplied : Mode → Text → Text → Text → Written → Type 0
IsReplied mode t old new (Normal n) = (normal : Text) × IsNormalText languages mode t normal
    × (new ≡ old ++ (normal ++ 10 ∷ []))
IsReplied mode t old new other = IfSome (refusal_of other) (HasRefusal mode t) × (new ≡ old)

-- the normal text of the line and a newline stand behind what was held; or the line is refused so,
-- and nothing more is held
abbrev pub AnswersLine : Mode → Text → Text → Text → Option ParseError → Type 0
AnswersLine mode line old new None = (normal : Text) × IsNormalText languages mode line normal
    × (new ≡ old ++ (normal ++ 10 ∷ []))
AnswersLine mode line old new (Some e) = HasRefusal mode line e × (new ≡ old)

-- unless memory was refused, the reply to the line stands behind what was held, and what kept the
-- line is empty
abbrev pub RepliesTo : {T E : Type 0} → Mode → Text → Text → Text → Text → Result T E → Type 0
RepliesTo mode line old new kept result =
    OnOk result (new ≡ old ++ reply languages mode line) × OnOk result (kept ≡ [])

-- unless memory was refused, what is pending now is a line's beginning, and whatever comes next, the
-- replies to it all are these and what is still to come; no more is pending than came
abbrev pub FeedsReplies : {T E : Type 0} → Mode → Text → Text → Text → Text → Text → Result T E → Type 0
FeedsReplies mode pending piece old new pending' result =
    OnOk result (IsOneLine pending')
    × OnOk result ((next : Text) → old ++ output languages mode (pending ++ (piece ++ next))
    ≡ new ++ output languages mode (pending' ++ next))
    × OnOk result (length pending' ≤ length pending + length piece)

-- the most bytes that are asked for at once to reply to a line behind what is held: a reply is at
-- most 48 bytes longer than its line
abbrev pub line_room : Text → Text → ℕ
line_room held line = room_for (length held + (length line + 48))

-- and to the lines of a text: room for their replies, and for one line
abbrev pub text_room : Mode → Text → Text → ℕ
text_room mode held text =
    room_for (length held + length (output languages mode text) + (length text + 48))

-- a run was refused room: where what it reads is known, for what replies to it ask for at most
abbrev pub IsRunRefused : (ℕ → Type 0) → Mode → Option Text → Type 0
IsRunRefused Refused mode (Some input) = RefusedWithin Refused (text_room mode [] input)
IsRunRefused Refused mode None = WasRefused Refused
