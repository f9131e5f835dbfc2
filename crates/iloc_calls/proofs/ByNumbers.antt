-- What is answered to the number of a value that was found.
use Rattle.std.proofs.Common.{◌≡◌, ◌↔◌, ◌≤◌, ℕ, Option, Some, sym, ap, ◌∙◌, subst, arith}
use Rattle.std.specs.Option.{unwrap_or}
use Rattle.iloc_normalize.specs.declared.Mode.{Mode}
use Rattle.iloc_normalize.specs.declared.Mode.TheVariants.{Langid, Locale, Data}
use Rattle.iloc_calls.specs.Numbers.{ByMode, ByNumber, ByStatus, mode_number, number_of}
use Rattle.iloc_calls.specs.declared.status.Status.{Status}
use Rattle.iloc_calls.specs.declared.status.Status.TheVariants.{Done, InvalidLanguage, InvalidSubtag, InvalidExtension, DuplicatedExtension, OutOfMemory, BufferTooSmall, UnknownNumber, NotFound}

-- the value that was found is the only one of that number, which is none above the last
pub by_found : {X : Type 0} (number_of_value : X → ℕ) (last number : ℕ) (found : Option X) (x : X)
    (IsKnown : X → ℕ → Type 0) (IsKept : Type 0) (result : ℕ) → ((y : X) → number_of_value y ≤ last)
    → ((y : X) → (found ≡ Some y) ↔ (number ≡ number_of_value y)) → found ≡ Some x → IsKnown x result
    → ByNumber number_of_value last number IsKnown IsKept result
by_found number_of_value last number found x IsKnown IsKept result few finds is known = record {
  known = λ y e. subst (λ z. IsKnown z result) (ap (λ o. unwrap_or o y) (sym is ∙ (finds y).1 e)) known;
  unknown = λ far.
      let least = few x in let same = (finds x).0 is in absurd (omega (arith, least, same, far));
}

-- the numbers of modes and of statuses

pub few_modes : (m : Mode) → mode_number m ≤ 2
few_modes Langid = omega arith
few_modes Locale = omega arith
few_modes Data = omega arith

few_statuses : (s : Status) → number_of s ≤ 8
few_statuses Done = omega arith
few_statuses InvalidLanguage = omega arith
few_statuses InvalidSubtag = omega arith
few_statuses InvalidExtension = omega arith
few_statuses DuplicatedExtension = omega arith
few_statuses OutOfMemory = omega arith
few_statuses BufferTooSmall = omega arith
few_statuses UnknownNumber = omega arith
few_statuses NotFound = omega arith

-- so is what is answered to the number of a mode, or of a status

pub by_mode : (number : ℕ) (found : Option Mode) (m : Mode) (IsKnown : Mode → ℕ → Type 0) (IsKept : Type 0)
    (result : ℕ) → ((n : Mode) → (found ≡ Some n) ↔ (number ≡ mode_number n)) → found ≡ Some m
    → IsKnown m result → ByMode number IsKnown IsKept result
by_mode number found m IsKnown IsKept result =
    by_found mode_number 2 number found m IsKnown IsKept result few_modes

pub by_status : (number : ℕ) (found : Option Status) (s : Status) (IsKnown : Status → ℕ → Type 0)
    (IsKept : Type 0) (result : ℕ) → ((r : Status) → (found ≡ Some r) ↔ (number ≡ number_of r))
    → found ≡ Some s
    → IsKnown s result → ByStatus number IsKnown IsKept result
by_status number found s IsKnown IsKept result =
    by_found number_of 8 number found s IsKnown IsKept result few_statuses
