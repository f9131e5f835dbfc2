-- What becomes of a line that is checked. This program's rule.
use Rattle.std.specs.Prelude.{◌≡◌, ◌⊎◌, ℕ, []}
use Rattle.iloc_spec_grammar.specs.Syntax.{Text}
use Rattle.iloc_normalize.specs.declared.Mode.{Mode}
use Rattle.iloc_faults.specs.Places.{IsAccepted, IsFault}
use Rattle.iloc_faults.specs.declared.Fault.{Fault}

-- Nothing is written of an accepted line. What is written of another one is not said here.
abbrev pub IsChecked : Mode → Text → Text → Type 0
IsChecked mode line t = (IsAccepted mode line × (t ≡ []))
    ⊎ ((f : Fault) × IsFault mode line f)
