-- What readers answer: what was read, a fault that is there, or out of memory. If a text has one
-- meaning or one fault and never both, each case except out of memory says both directions.
use Rattle.std.specs.Prelude.{Result, Ok, Err, ◌≡◌, ⊤}
use Rattle.iloc_spec_grammar.specs.Meaning as faults
use Rattle.iloc_spec_grammar.specs.Meaning.{Fault}
use Rattle.iloc_subtags.specs.declared.parse_error.ParseError.{ParseError}
use Rattle.iloc_subtags.specs.declared.parse_error.ParseError.TheVariants.{InvalidLanguage, InvalidSubtag}
use Rattle.iloc_subtags.specs.declared.parse_error.ParseError.TheVariants.{InvalidExtension}
use Rattle.iloc_subtags.specs.declared.parse_error.ParseError.TheVariants.{DuplicatedExtension, OutOfMemory}

-- what a refusal says: the fault of its name is there, or memory ran out
abbrev pub Refusal : (Fault → Type 0) → Type 0 → ParseError → Type 0
Refusal Has MayRunOut InvalidLanguage = Has faults.InvalidLanguage
Refusal Has MayRunOut InvalidSubtag = Has faults.InvalidSubtag
Refusal Has MayRunOut InvalidExtension = Has faults.InvalidExtension
Refusal Has MayRunOut DuplicatedExtension = Has faults.DuplicatedExtension
Refusal Has MayRunOut OutOfMemory = MayRunOut

-- an answer is what was meant, or a refusal
abbrev pub Answers : {X : Type 0} → (X → Type 0) → (Fault → Type 0) → Type 0
    → Result X ParseError → Type 0
Answers IsMeant Has MayRunOut (Ok x) = IsMeant x
Answers IsMeant Has MayRunOut (Err e) = Refusal Has MayRunOut e

-- memory runs out only if this holds
abbrev pub RunsOutOnlyIf : {X : Type 0} → Type 0 → Result X ParseError → Type 0
RunsOutOnlyIf Wants (Err OutOfMemory) = Wants
RunsOutOnlyIf Wants _ = ⊤

-- the refusal is another than that memory ran out
abbrev pub NamesFault : ParseError → Type 0
NamesFault OutOfMemory = ⊥
NamesFault _ = ⊤

-- the fault g alone can come, and it is there if P holds
abbrev pub Only : Fault → Type 0 → Fault → Type 0
Only g P f = (f ≡ g) × P

-- What readers owe a text: they accept one that means something, as what it means, and refuse one
-- that has a fault, by that fault. Out of memory is the only way out, and only if it may happen.
-- This project's rule.

-- the answer to a text that means v: something whose value is v, or out of memory
abbrev pub Accepts : {X V : Type 0} → (X → V) → Type 0 → V → Result X ParseError → Type 0
Accepts value MayRunOut v = Answers (λ x. value x ≡ v) (λ f. ⊥) MayRunOut

-- the answer to a text that has the fault f: f, or out of memory
abbrev pub Refuses : {X : Type 0} → Type 0 → Fault → Result X ParseError → Type 0
Refuses MayRunOut f = Answers (λ x. ⊥) (λ g. g ≡ f) MayRunOut

-- the refusal that names the fault
abbrev pub error_of : Fault → ParseError
error_of faults.InvalidLanguage = InvalidLanguage
error_of faults.InvalidSubtag = InvalidSubtag
error_of faults.InvalidExtension = InvalidExtension
error_of faults.DuplicatedExtension = DuplicatedExtension
