-- A plain program for parts that are read with their singleton: the singleton in lower case, the
-- value and what is left, or the fault.
use Rattle.std.specs.Prelude.{ℕ, Bool, List, [], ◌∷◌, Result, Ok, Err, if◌then◌else◌}
use Rattle.std.specs.Char.{to_ascii_lowercase}
use Rattle.iloc_spec_grammar.specs.Syntax.{Text}
use Rattle.iloc_spec_grammar.specs.Meaning.{Fault, InvalidExtension}

abbrev pub with_singleton : {X : Type 0} → ℕ → Result (X × List Text) Fault
    → Result ((ℕ × X) × List Text) Fault
with_singleton c (Ok r) = Ok ((c, r.0), r.1)
with_singleton c (Err f) = Err f

-- the program reads what follows a singleton that passes the test
abbrev pub part_result : {X : Type 0} → (ℕ → Bool) → (List Text → Result (X × List Text) Fault)
    → List Text → Result ((ℕ × X) × List Text) Fault
part_result test program [] = Err InvalidExtension
part_result test program ([] ∷ ps) = Err InvalidExtension
part_result test program ((b ∷ []) ∷ ps) = if test (to_ascii_lowercase b)
    then with_singleton (to_ascii_lowercase b) (program ps) else Err InvalidExtension
part_result test program ((b ∷ c ∷ p) ∷ ps) = Err InvalidExtension
