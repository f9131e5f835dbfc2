-- What follows for every reader of a front.
use Rattle.std.proofs.Common.{arith, ◌≡◌, ◌⊎◌, inl, inr, true, List, [], ◌∷◌, ◌++◌, refl, true≢false, Result, Ok, Err, MatchResult}
use Rattle.std.specs.List.{AllByRecursion}
use Rattle.iloc_spec_grammar.specs.Meaning.{Fault}
use Rattle.iloc_spec_grammar.specs.Syntax.{Text, front}
use Rattle.iloc_spec_grammar.specs.Reading.{starts_block, from_block}
use Rattle.iloc_spec_grammar.proofs.Readings.{IsLong}
use Rattle.iloc_spec_grammar.proofs.ReadingLaws.{from_block_starts}
use Rattle.iloc_spec_parts.specs.Readers.{IsReader, AgreesWithBlocks}

-- long pieces before a block are its front
pub until_block : (xs rest : List Text) → AllByRecursion IsLong xs → starts_block rest ≡ true →
    (front (xs ++ rest) ≡ xs) × (from_block (xs ++ rest) ≡ rest)
until_block [] [] h s = (refl, refl)
until_block [] (p ∷ ps) h s = (rw s refl, rw s refl)
until_block (x ∷ xs) rest h s = search (until_block xs rest h.1 s)

module _ {X : Type 0} (R : List Text → X → List Text → Type 0)
    (F : List Text → Fault → Type 0) where
  abbrev IsOne : Type 0
  IsOne = (ps : List Text) (v w : X) (rest more : List Text) → R ps v rest → R ps w more →
      (v ≡ w) × (rest ≡ more)

  abbrev IsApart : Type 0
  IsApart = (ps : List Text) (v : X) (rest : List Text) (f : Fault) → R ps v rest → F ps f → ⊥

  abbrev IsOneFault : Type 0
  IsOneFault = (ps : List Text) (f g : Fault) → F ps f → F ps g → f ≡ g

  -- what is said of a program's answer, and of a program
  abbrev pub Answer : List Text → Result (X × List Text) Fault → Type 0
  Answer ps o = MatchResult o (λ r. R ps r.0 r.1) (F ps)

  abbrev pub Answers : (List Text → Result (X × List Text) Fault) → Type 0
  Answers result = (ps : List Text) → Answer ps (result ps)

  -- a program that answers makes a reader
  pub reader_of : (result : List Text → Result (X × List Text) Fault) → Answers result → IsOne →
      IsApart → IsOneFault → IsReader R F
  reader_of result answer one apart one_fault =
      record { one = one; either = λ ps. at ps (result ps) (answer ps); apart = apart; one_fault = one_fault }
    where
      at : (ps : List Text) (o : Result (X × List Text) Fault) → Answer ps o →
          ((v : X) × (rest : List Text) × R ps v rest) ⊎ ((f : Fault) × F ps f)
      at ps (Ok r) h = inl (r.0, r.1, h)
      at ps (Err f) h = inr (f, h)

  module _ (B : List Text → X → Type 0) where
    abbrev IsWhole : Type 0
    IsWhole = (ps : List Text) (v : X) (rest : List Text) → R ps v rest → starts_block rest ≡ true →
        B (front ps) v × (rest ≡ from_block ps)

    -- a reader that reads what blocks mean reads nothing else of them
    pub agreeing : IsReader R F → IsWhole →
        ((ps : List Text) (v : X) → B (front ps) v → R ps v (from_block ps)) → AgreesWithBlocks R F B
    agreeing reader whole block = grind (arith, true≢false, from_block_starts)
