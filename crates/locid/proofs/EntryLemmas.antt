-- What is written for a line that is refused.
use Rattle.std.proofs.Common.{◌≡◌, ◌++◌, inr, subst}
use Rattle.iloc_spec_grammar.specs.Syntax.{Text}
use Rattle.iloc_normalize.specs.declared.Mode.{Mode}
use Rattle.iloc_faults.specs.Places.{IsFault}
use Rattle.iloc_faults.specs.declared.Fault.{Fault}
use Rattle.iloc_program.specs.Numbered.{AddsText}
use Rattle.locid.specs.Checked.{IsChecked}

-- whatever is added for a line with a fault
pub refused : (m n : Mode) (same : m ≡ n) (text line : Text) (is : text ≡ line) (f : Fault) →
    IsFault m text f → (added old new : Text) → new ≡ old ++ added → AddsText (IsChecked n line) old new
refused m n same text line is f fault added old new adds =
    subst (λ (k : Mode). AddsText (IsChecked k line) old new) same
    (subst (λ (t : Text). AddsText (IsChecked m t) old new) is (added, inr (f, fault), adds))
