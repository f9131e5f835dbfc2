-- The readers of single parts with their singletons: what they read, and where the program does.
use Rattle.std.proofs.Common.{arith, ◌≡◌, Bool, true, List, ◌∷◌, refl, Result, Err, MatchResult, true≢false, ℕ, [], Ok, sym, ◌∙◌}
use Rattle.std.specs.Char.{to_ascii_lowercase}
use Rattle.iloc_spec_grammar.specs.Meaning.{Fault}
use Rattle.std.proofs.lemmas.Bool.{cond_both}
use Rattle.iloc_spec_parts.specs.Parts.{PartRead, PartFault, no_singleton, after_singleton, is_letter}
use Rattle.iloc_spec_parts.specs.PartComputing.{with_singleton, part_result}
use Rattle.iloc_spec_grammar.specs.Syntax.{Text, LanguageLengths, code_x, code_u, code_t, AreLengths, is_other_singleton}
use Rattle.iloc_spec_parts.specs.Readers.{IsReader}
use Rattle.iloc_spec_parts.proofs.ReaderLaws.{reader_of, Answers}
use Rattle.iloc_spec_parts.specs.Fronts.{UnicodeRead, UnicodeFault, TransformRead, TransformFault, OtherRead, OtherFault, PrivateRead, PrivateFault, unicode_result, transform_result, other_result, private_result}
use Rattle.iloc_spec_parts.proofs.FrontLaws.{unicode_reader, unicode_answer, other_reader, other_answer, private_reader, private_answer}
use Rattle.iloc_spec_parts.proofs.TransformLaws.{transform_reader, transform_answer}

-- The program reads a part where its reader does, and finds its fault.

module _ {X : Type 0} (test : ℕ → Bool) (program : List Text → Result (X × List Text) Fault)
    (R : List Text → X → List Text → Type 0) (F : List Text → Fault → Type 0)
    (answer : (ps : List Text) → MatchResult (program ps) (λ r. R ps r.0 r.1) (F ps)) where
  abbrev IsAnswered : List Text → Result ((ℕ × X) × List Text) Fault → Type 0
  IsAnswered ps o = MatchResult o (λ r. PartRead test R ps r.0 r.1) (PartFault test F ps)

  after : (b : ℕ) (ps : List Text) → test (to_ascii_lowercase b) ≡ true →
      (o : Result (X × List Text) Fault) → MatchResult o (λ r. R ps r.0 r.1) (F ps) →
      IsAnswered ((b ∷ []) ∷ ps) (with_singleton (to_ascii_lowercase b) o)
  after b ps e (Ok r) m = grind arith
  after b ps e (Err f) m = after_singleton refl e m

  pub part_answer : (ps : List Text) → IsAnswered ps (part_result test program ps)
  part_answer [] = no_singleton refl
  part_answer ([] ∷ ps) = no_singleton refl
  part_answer ((b ∷ c ∷ p) ∷ ps) = no_singleton refl
  part_answer ((b ∷ []) ∷ ps) = cond_both (test (to_ascii_lowercase b)) _ _ (IsAnswered ((b ∷ []) ∷ ps))
      (λ e. after b ps e (program ps) (answer ps)) (λ e. no_singleton e)

-- Parts with their singletons.

-- A singleton before a reader makes a reader.
module _ {X : Type 0} (test : ℕ → Bool) (R : List Text → X → List Text → Type 0)
    (F : List Text → Fault → Type 0) (reader : IsReader R F) where
  one : (ps : List Text) (v w : ℕ × X) (rest more : List Text) → PartRead test R ps v rest →
      PartRead test R ps w more → (v ≡ w) × (rest ≡ more)
  one ps v w rest more a b = grind arith

  apart : (ps : List Text) (v : ℕ × X) (rest : List Text) (f : Fault) → PartRead test R ps v rest →
      PartFault test F ps f → ⊥
  apart ps v rest f h (no_singleton n) = grind (arith, true≢false)
  apart ps v rest f h (after_singleton {b = b} {after = after} e p x) = grind arith

  one_fault : (ps : List Text) (f g : Fault) → PartFault test F ps f → PartFault test F ps g → f ≡ g
  one_fault ps f g (no_singleton n) (no_singleton m) = refl
  one_fault ps f g (no_singleton n) (after_singleton e p x) = absurd (true≢false (sym p ∙ n))
  one_fault ps f g (after_singleton e p x) (no_singleton n) = absurd (true≢false (sym p ∙ n))
  one_fault ps f g (after_singleton {b = b} {after = after} e p x)
      (after_singleton {b = c} {after = later} k q y) = grind arith

  pub part_reader : (program : List Text → Result (X × List Text) Fault) → Answers R F program →
      IsReader (PartRead test R) (PartFault test F)
  part_reader program answer = reader_of (PartRead test R) (PartFault test F) (part_result test program)
      (part_answer test program R F answer) one apart one_fault

-- The readers of single parts with their singletons.

pub unicode_part : IsReader (PartRead (is_letter code_u) UnicodeRead)
    (PartFault (is_letter code_u) UnicodeFault)
unicode_part =
    part_reader (is_letter code_u) UnicodeRead UnicodeFault unicode_reader unicode_result unicode_answer

pub transform_part : (T : LanguageLengths) → AreLengths T →
    IsReader (PartRead (is_letter code_t) (TransformRead T)) (PartFault (is_letter code_t) (TransformFault T))
transform_part T table = part_reader (is_letter code_t) (TransformRead T) (TransformFault T)
    (transform_reader T table) (transform_result T) (transform_answer table)

pub other_part : IsReader (PartRead is_other_singleton OtherRead) (PartFault is_other_singleton OtherFault)
other_part = part_reader is_other_singleton OtherRead OtherFault other_reader other_result other_answer

pub private_part : IsReader (PartRead (is_letter code_x) PrivateRead)
    (PartFault (is_letter code_x) PrivateFault)
private_part =
    part_reader (is_letter code_x) PrivateRead PrivateFault private_reader private_result private_answer
