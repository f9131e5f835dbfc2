-- What is answered of a normal text.
use Rattle.std.specs.Prelude.{◌≡◌, ◌↔◌, Result}
use Rattle.std.specs.Cow.{cow_str_bytes}
use Rattle.std.specs.declared.borrow.CowStr.{CowStr}
use Rattle.iloc_spec_grammar.specs.Syntax.{Text, languages}
use Rattle.iloc_writeable.specs.Writing.{IsLent}
use Rattle.iloc_subtags.specs.declared.parse_error.ParseError.{ParseError}
use Rattle.iloc_subtags.specs.Judging.{Answers}
use Rattle.iloc_normalize.specs.Modes.{IsNormalText, IsFaulty}
use Rattle.iloc_normalize.specs.declared.Mode.{Mode}

-- in the mode, the text means something, and is not the normal text of that
abbrev pub IsNotNormal : Mode → Text → Type 0
IsNotNormal mode t = (normal : Text) × IsNormalText languages mode t normal × ¬ (t ≡ normal)

-- in the mode, the normal text of t is answered, t itself exactly if it is that; or the fault of t;
-- or that memory ran out, if the normal text is not t
abbrev pub IsNormalizedAs : {Z : Type 0} → Mode → Text → Result (CowStr Z) ParseError → Type 0
IsNormalizedAs mode t = Answers
    (λ c. IsNormalText languages mode t (cow_str_bytes c) × (IsLent c ↔ (t ≡ cow_str_bytes c)))
    (IsFaulty languages mode t) (IsNotNormal mode t)
