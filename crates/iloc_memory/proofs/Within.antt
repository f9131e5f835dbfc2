-- What follows from a refusal.
use Rattle.std.proofs.Common.{ℕ, ◌≤◌, arith, Result, Ok, Err, OnErr}
use Rattle.iloc_memory.specs.Refusals.{RefusedWithin}

-- a wider bound holds too
pub within_more : (Refused : ℕ → Type 0) (m n : ℕ) → m ≤ n → RefusedWithin Refused m → RefusedWithin Refused n
within_more Refused m n wider (k, below, given) = (k, omega (arith, wider, below), given)

-- the same of an answer
pub refused_more : {A E : Type 0} (Refused : ℕ → Type 0) (m n : ℕ) → m ≤ n → (r : Result A E) →
    OnErr r (RefusedWithin Refused m) → OnErr r (RefusedWithin Refused n)
refused_more Refused m n wider (Ok x) h = tt
refused_more Refused m n wider (Err e) h = within_more Refused m n wider h
