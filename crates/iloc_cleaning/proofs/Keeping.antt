-- What a list began with before it grew, it begins with.
use Rattle.std.proofs.Common.{◌≡◌, ℕ, ◌≤◌, List, ◌++◌, length, take, drop, arith, ap, sym, ◌∙◌, Result, Ok, Err, OnErr}
use Rattle.std.proofs.Math.Seq.{take-append_seam}
use Rattle.std.proofs.lemmas.List.{take-append-le, take-append-drop, length-append}

-- a list begins with what its beginning begins with
pub take_further : (k n : ℕ) (old more new : List ℕ) → take k new ≡ old ++ more → n ≡ length old
    → take n new ≡ old
take_further k n old more new e m =
    let whole : new ≡ (old ++ more) ++ drop k new =
    sym (take-append-drop k new) ∙ ap (λ t. t ++ drop k new) e in
    let within : length old ≤ length (old ++ more) = omega (arith, length-append old more) in
    rw m (ap (take (length old)) whole ∙ take-append-le (length old) (old ++ more) (drop k new) within
    ∙ take-append_seam old more)

-- so after a failure
pub err_further : {T E : Type 0} (r : Result T E) (k n : ℕ) (old more mid new : List ℕ)
    → OnErr r (take k new ≡ mid) → mid ≡ old ++ more → n ≡ length old → OnErr r (take n new ≡ old)
err_further (Ok x) k n old more mid new e m l = tt
err_further (Err x) k n old more mid new e m l = take_further k n old more new (e ∙ m) l
