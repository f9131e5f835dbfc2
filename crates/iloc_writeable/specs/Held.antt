-- A sink that holds the text that it took.
use Rattle.std.specs.Prelude.{◌≡◌, ℕ, List, ◌++◌, Result, Ok, Err}
use Rattle.std.specs.declared.fmt.Error.{Error}
use Rattle.iloc_writeable.specs.Writing.{FailsWithin}

-- What it took stands after what it held, and so does what was added before a failure.
pub record HoldsText {S : Type 0} (took : S → List ℕ → S → Type 0)
    (failed : S → List ℕ → List ℕ → S → Type 0) (held : S → List ℕ) : Type 0 where
  pub taken : (old new : S) (text : List ℕ) → took old text new → held new ≡ held old ++ text
  pub cut : (old new : S) (text rest : List ℕ) → failed old text rest new
      → held new ≡ held old ++ text

-- Exactly the text was added; or a beginning of it, and then the sink failed.
abbrev pub Adds : {S : Type 0} → (S → List ℕ → List ℕ → S → Type 0) → (S → List ℕ) → S → List ℕ → S
    → Result (Unit {0}) Error → Type 0
Adds failed held old text new (Ok _) = held new ≡ held old ++ text
Adds failed held old text new (Err _) =
    FailsWithin (λ a t u b. (held b ≡ held a ++ t) × failed a t u b) old text new
