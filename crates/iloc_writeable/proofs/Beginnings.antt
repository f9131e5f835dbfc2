-- A text of which a beginning was written.
use Rattle.std.proofs.Common.{◌≡◌, ℕ, ◌-◌, List, ◌++◌, length, drop, Option, Some, refl, sym, ap, ◌∙◌, arith, length-drop}
use Rattle.std.proofs.lemmas.List.{take-append-drop}
use Rattle.iloc_writeable.specs.Growth.{AddsBeginning, Broken}

-- the text is its beginning and what is missing
pub beginning-missing : (old new : Option (List ℕ)) (text : List ℕ) (b : AddsBeginning old new text)
    → b.written ++ drop (length b.written) text ≡ text
beginning-missing old new text b =
    ap (λ l. l ++ drop (length b.written) text) (sym b.begins)
    ∙ take-append-drop (length b.written) text

-- the write failed after the beginning, with the rest of the text still to come
pub Broken-beginning : {E : Type 0} (old new : Option (List ℕ)) (text : List ℕ) (error : E)
    (b : AddsBeginning old new text)
    → Broken old b.written (drop (length b.written) text) new (Some error)
Broken-beginning old new text error b =
    let left : length (drop (length b.written) text) ≡ length text - length b.written =
    length-drop (length b.written) text in
    let shorter = b.shorter in
    record { bytes = b.bytes; missing = omega (arith, left, shorter); reason = refl }
