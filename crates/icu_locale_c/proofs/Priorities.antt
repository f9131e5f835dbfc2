-- What is answered to the number of a priority that was found.
use Rattle.std.proofs.Common.{◌≡◌, ◌↔◌, ◌≤◌, ℕ, Option, Some, arith}
use Rattle.iloc_calls.proofs.ByNumbers.{by_found}
use Rattle.iloc_handles.specs.Data.{ByPriority, priority_number}
use Rattle.iloc_handles.specs.declared.data.Priority.{Priority}
use Rattle.iloc_handles.specs.declared.data.Priority.TheVariants.{Language, Region}

few_priorities : (p : Priority) → priority_number p ≤ 1
few_priorities Language = omega arith
few_priorities Region = omega arith

pub by_priority : (number : ℕ) (found : Option Priority) (p : Priority) (IsKnown : Priority → ℕ → Type 0)
    (IsKept : Type 0) (result : ℕ) → ((q : Priority) → (found ≡ Some q) ↔ (number ≡ priority_number q))
    → found ≡ Some p
    → IsKnown p result → ByPriority number IsKnown IsKept result
by_priority number found p IsKnown IsKept result =
    by_found priority_number 1 number found p IsKnown IsKept result few_priorities
