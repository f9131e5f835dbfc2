-- What a caller finds of the fault of a text.
use Rattle.std.specs.Prelude.{◌≡◌, ℕ}
use Rattle.iloc_spec_grammar.specs.Syntax.{Text}
use Rattle.iloc_normalize.specs.declared.Mode.{Mode}
use Rattle.iloc_faults.specs.Places.{IsAccepted, IsFaultPlace}
use Rattle.iloc_calls.specs.Answers.{JudgedAs}
use Rattle.iloc_calls.specs.declared.status.Status.{Status}
use Rattle.iloc_calls.specs.declared.status.Status.TheVariants.{Done, OutOfMemory}

-- why a text is refused, with the place of its fault, start and end, in place of what stood there;
-- of a text that means something nothing is written. No memory is wanted
abbrev pub FindsFault : Mode → Text → ℕ × ℕ → ℕ × ℕ → Status → Type 0
FindsFault mode t before after Done = IsAccepted mode t × (after ≡ before)
FindsFault mode t before after OutOfMemory = ⊥
FindsFault mode t before (start, end) status = JudgedAs mode t status × IsFaultPlace mode t start end
