-- What is answered of a text without a value.
use Rattle.std.specs.Prelude.{◌⊎◌, ℕ, ◌+◌, ◌<◌, ◌≤◌, length, take, ⊤, Option, Some, None, IfSome}
use Rattle.iloc_spec_grammar.specs.Syntax.{Text, languages}
use Rattle.iloc_subtags.specs.declared.parse_error.ParseError.{ParseError}
use Rattle.iloc_subtags.specs.declared.parse_error.ParseError.TheVariants as error
use Rattle.iloc_subtags.specs.Judging.{Refusal}
use Rattle.iloc_outline.specs.Outlines.{BeginsWithLanguage, IsLimit}
use Rattle.iloc_normalize.specs.Modes.{IsNormalText, IsFaulty}
use Rattle.iloc_normalize.specs.declared.Mode.{Mode}
use Rattle.iloc_normalize.specs.declared.leads.Lead.{Lead}
use Rattle.iloc_normalize.specs.declared.leads.Lead.TheVariants as lead
use Rattle.iloc_normalize.specs.declared.answered.Answered.{Answered}
use Rattle.iloc_normalize.specs.declared.answered.Answered.TheVariants as answered
use Rattle.iloc_normalize.specs.declared.writing.Written.{Written}
use Rattle.iloc_normalize.specs.declared.writing.Written.TheVariants as written

-- in the mode, the text has the fault of this refusal
abbrev pub HasRefusal : Mode → Text → ParseError → Type 0
HasRefusal mode t e = Refusal (IsFaulty languages mode t) ⊥ e

-- what the beginning shows is so
abbrev pub IsLead : Mode → Text → Lead → Type 0
IsLead mode t (lead.Refused e) = HasRefusal mode t e
IsLead mode t lead.Outline = BeginsWithLanguage t

-- what is answered is so
abbrev pub IsAnswered : Mode → Text → Answered → Type 0
IsAnswered mode t (answered.Normal n) = IsNormalText languages mode t n.now
IsAnswered mode t (answered.Refused e) = HasRefusal mode t e
IsAnswered mode t answered.Nothing = ⊤

-- The text is not outlined in a room of so many bytes: it has more than 64 pieces, or there is no
-- room for its bytes and sixteen more. This library's rule.
abbrev pub IsBeyond : ℕ → Text → Type 0
IsBeyond room t = IsLimit t ⊎ (room < length t + 16)

-- nothing is answered for this reason only
abbrev pub IsNothingOnlyIf : Type 0 → Answered → Type 0
IsNothingOnlyIf reason answered.Nothing = reason
IsNothingOnlyIf reason _ = ⊤

-- why a text is refused of which this was written
abbrev pub refusal_of : Written → Option ParseError
refusal_of (written.Normal n) = None
refusal_of written.InvalidLanguage = Some error.InvalidLanguage
refusal_of written.InvalidSubtag = Some error.InvalidSubtag
refusal_of written.InvalidExtension = Some error.InvalidExtension
refusal_of written.DuplicatedExtension = Some error.DuplicatedExtension
refusal_of written.Nothing = None

-- what is written in a room is so: the normal text comes first, by a region longer than the text at
-- most; nothing is written of a text that is not outlined there
abbrev pub IsNormalWritten : Mode → Text → Text → Written → Type 0
IsNormalWritten mode t room (written.Normal n) = (n ≤ length t + 4) × (length t + 16 ≤ length room)
    × IsNormalText languages mode t (take n room)
IsNormalWritten mode t room written.Nothing = IsBeyond (length room) t
IsNormalWritten mode t room refused = IfSome (refusal_of refused) (HasRefusal mode t)
