-- The refusal of a fault is the status of the text.
use Rattle.std.proofs.Common.{ℕ}
use Rattle.iloc_subtags.specs.declared.parse_error.ParseError.{ParseError}
use Rattle.iloc_subtags.specs.declared.parse_error.ParseError.TheVariants as refusals
use Rattle.iloc_normalize.specs.Answered.{HasRefusal}
use Rattle.iloc_normalize.specs.declared.Mode.{Mode}
use Rattle.iloc_faults.specs.Places.{IsFaultPlace}
use Rattle.iloc_calls.specs.Faults.{FindsFault}
use Rattle.iloc_calls.specs.Numbers.{status_of}
use Rattle.iloc_spec_grammar.specs.Syntax.{Text}

-- a refusal and its place are what a caller finds, whatever stood there before
pub refusal_found : (mode : Mode) (t : Text) (before : ℕ × ℕ) (start end : ℕ) (e : ParseError)
    → HasRefusal mode t e → IsFaultPlace mode t start end →
    FindsFault mode t before (start, end) (status_of e)
refusal_found mode t before start end refusals.InvalidLanguage why place = (why, place)
refusal_found mode t before start end refusals.InvalidSubtag why place = (why, place)
refusal_found mode t before start end refusals.InvalidExtension why place = (why, place)
refusal_found mode t before start end refusals.DuplicatedExtension why place = (why, place)
refusal_found mode t before start end refusals.OutOfMemory why place = absurd why
