-- An input has one output, and a run into an empty writer writes it.
use Rattle.std.proofs.Common.{◌≡◌, [], ◌++◌, Some, sym, ap, ◌∙◌}
use Rattle.icu_locale_core.specs.Syntax.{Text, languages}
use Rattle.icu_locale_core.specs.ProgramAnswers.{IsOutput, output}
use Rattle.icu_locale_core.specs.ProgramOutput.{WritesAll}
use Rattle.icu_locale_core.specs.ProgramModes.{Mode}

-- what the law says, for the languages of this library
abbrev pub Only : Type 0
Only = (mode : Mode) (input written : Text) → IsOutput languages mode input written
    → written ≡ output languages mode input

pub one_output : Only → (mode : Mode) (input s t : Text) → IsOutput languages mode input s
    → IsOutput languages mode input t → s ≡ t
one_output only mode input s t is_s is_t = only mode input s is_s ∙ sym (only mode input t is_t)

some_same : {s t : Text} → Some s ≡ Some t → s ≡ t
some_same e = cc

-- all lines were read, and nothing was written before
pub is_output : Only → (mode : Mode) (lines read rest old new : Text) → read ≡ lines → old ≡ []
    → WritesAll mode (Some read) (Some rest) (Some old) (Some new) → new ≡ output languages mode lines
unfolding WritesAll
is_output only mode lines read rest old new is_lines is_empty (written, is, end, holds) =
    let same : new ≡ old ++ written = some_same holds in
    same ∙ ap (λ o. o ++ written) is_empty ∙ only mode read written is ∙ ap (output languages mode) is_lines
