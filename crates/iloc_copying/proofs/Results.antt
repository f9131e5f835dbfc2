-- What is said of an answer.
use Rattle.std.proofs.Common.{Result, Ok, Err, OnErr}

-- what holds is said of each answer
pub on_err : {A E : Type 0} (r : Result A E) (P : Type 0) → P → OnErr r P
on_err (Ok x) P p = tt
on_err (Err e) P p = p
