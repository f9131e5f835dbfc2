-- The lines of an input, and what is written for them.
use Rattle.std.proofs.Common.{◌≡◌, ◌≢◌, ℕ, ◌<◌, Bool, false, eqb, [], ◌∷◌, ◌++◌, length, refl, ap, append_assoc, arith, append-nil}
use Rattle.std.specs.List.{AllByRecursion}
use Rattle.std.proofs.lemmas.List.Elements.{recursion_from_All, All-append}
use Rattle.iloc_program.specs.Answers.{output, reply}
use Rattle.iloc_normalize.specs.declared.Mode.{Mode}
use Rattle.iloc_program.specs.Lines.{lines_of, onto_first, IsOneLine}
use Rattle.iloc_spec_grammar.specs.Syntax.{Text}

from_recursion : (line rest : Text) → AllByRecursion (λ c. c ≢ 10) line →
    lines_of (line ++ 10 ∷ rest) ≡ line ∷ lines_of rest
from_recursion [] rest h = refl
from_recursion (c ∷ line) rest h =
    let other : eqb c 10 ≡ false = search (arith, h.0) in
    rw other (ap (onto_first c) (from_recursion line rest h.1))

last_from_recursion : (c : ℕ) (line : Text) → AllByRecursion (λ c. c ≢ 10) (c ∷ line) →
    lines_of (c ∷ line) ≡ (c ∷ line) ∷ []
last_from_recursion c [] h =
    let other : eqb c 10 ≡ false = search (arith, h.0) in rw other refl
last_from_recursion c (d ∷ line) h =
    let other : eqb c 10 ≡ false = search (arith, h.0) in
    rw other (ap (onto_first c) (last_from_recursion d line h.1))

pub lines_of-cut : (line rest : Text) → IsOneLine line → lines_of (line ++ 10 ∷ rest) ≡ line ∷ lines_of rest
lines_of-cut line rest h = from_recursion line rest (recursion_from_All _ line h)

pub lines_of-last : (c : ℕ) (line : Text) → IsOneLine (c ∷ line) → lines_of (c ∷ line) ≡ (c ∷ line) ∷ []
lines_of-last c line h = last_from_recursion c line (recursion_from_All _ (c ∷ line) h)

-- a line and its LF are answered first
pub output-line : (T : ℕ → Bool) (mode : Mode) (line rest : Text) → IsOneLine line →
    output T mode (line ++ 10 ∷ rest) ≡ reply T mode line ++ output T mode rest
output-line T mode line rest h = rw (lines_of-cut line rest h) refl

-- a last line without LF is answered alone
pub output-last : (T : ℕ → Bool) (mode : Mode) (line : Text) → IsOneLine line → 0 < length line →
    output T mode line ≡ reply T mode line
output-last T mode [] h some = absurd (omega (arith, some))
output-last T mode (c ∷ line) h some = rw (lines_of-last c line h) (append-nil _)

-- what is pending, and then a piece that ends its line, whatever comes next
pub output-cut : (T : ℕ → Bool) (mode : Mode) (pending piece line later next : Text) → IsOneLine pending →
    IsOneLine line → piece ≡ line ++ 10 ∷ later
    → output T mode (pending ++ (piece ++ next))
    ≡ reply T mode (pending ++ line) ++ output T mode (later ++ next)
output-cut T mode pending piece line later next p q e =
    let joined : pending ++ (piece ++ next) ≡ (pending ++ line) ++ 10 ∷ (later ++ next) =
    rw e (simp append_assoc) in
    rw joined
    (output-line T mode (pending ++ line) (later ++ next) (All-append (λ c. c ≢ 10) pending line p q))
