-- What every reader of a front keeps to: it reads in one way or refuses for one reason. This
-- project's rule.
use Rattle.std.specs.Prelude.{◌≡◌, ◌⊎◌, true, false, List}
use Rattle.iloc_spec_grammar.specs.Syntax.{Text, front}
use Rattle.iloc_spec_grammar.specs.Meaning.{Fault}
use Rattle.iloc_spec_grammar.specs.Reading.{starts_block, from_block}

-- R: a value is read from the front of the pieces, and the rest is left. F: the pieces have a
-- fault. Always the one or the other, and only one.
pub record IsReader {X : Type 0} (R : List Text → X → List Text → Type 0)
    (F : List Text → Fault → Type 0) : Type 0 where
  pub one : (ps : List Text) (v w : X) (rest more : List Text) → R ps v rest → R ps w more
      → (v ≡ w) × (rest ≡ more)
  pub either : (ps : List Text)
      → ((v : X) × (rest : List Text) × R ps v rest) ⊎ ((f : Fault) × F ps f)
  pub apart : (ps : List Text) (v : X) (rest : List Text) (f : Fault) → R ps v rest → F ps f → ⊥
  pub one_fault : (ps : List Text) (f g : Fault) → F ps f → F ps g → f ≡ g

-- B: what the pieces of a block mean. The block ends before the next piece of one byte. If the
-- reader stops there, its value is the block's; if it stops before, or finds a fault, the block
-- means nothing.
pub record AgreesWithBlocks {X : Type 0} (R : List Text → X → List Text → Type 0)
    (F : List Text → Fault → Type 0) (B : List Text → X → Type 0) : Type 0 where
  pub whole : (ps : List Text) (v : X) (rest : List Text) → R ps v rest → starts_block rest ≡ true
      → B (front ps) v × (rest ≡ from_block ps)
  pub block : (ps : List Text) (v : X) → B (front ps) v → R ps v (from_block ps)
  pub left_over : (ps : List Text) (v w : X) (rest : List Text) → R ps v rest
      → starts_block rest ≡ false → B (front ps) w → ⊥
  pub refused : (ps : List Text) (f : Fault) (w : X) → F ps f → B (front ps) w → ⊥
