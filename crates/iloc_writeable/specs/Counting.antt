-- Lengths that are added up.
use Rattle.std.specs.Prelude.{◌≡◌, ℕ, ◌+◌, List, [], ◌++◌, Option, length}
use Rattle.std.proofs.Common.{ap, ◌∙◌, sym, add-zero, add_assoc, length-append}
use Rattle.iloc_writeable.specs.Hints.{fitting}

-- a sum before the text, if it fits, is that of the length after it
abbrev pub Counted : Option ℕ → List ℕ → Option ℕ → Type 0
Counted a text b = (n : ℕ) → a ≡ fitting n → b ≡ fitting (n + length text)

pub counted_nothing : (a : Option ℕ) → Counted a [] a
counted_nothing a n h = h ∙ ap fitting (sym (add-zero n))

pub counted_both : (a b c : Option ℕ) (s t : List ℕ) → Counted a s b → Counted b t c
    → Counted a (s ++ t) c
counted_both a b c s t p q n h = q (n + length s) (p n h)
    ∙ ap fitting
    (add_assoc n (length s) (length t) ∙ ap (λ m. n + m) (sym (length-append s t)))
