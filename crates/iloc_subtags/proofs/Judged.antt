-- What a reader answers, in the other direction: what is meant is accepted, and a fault is refused.
use Rattle.std.proofs.Common.{◌≡◌, sym, ◌∙◌, Result, Ok, Err}
use Rattle.std.specs.Prelude.{⊤}
use Rattle.iloc_spec_grammar.specs.Meaning as faults
use Rattle.iloc_spec_grammar.specs.Meaning.{Fault}
use Rattle.iloc_subtags.specs.declared.parse_error.ParseError.{ParseError}
use Rattle.iloc_subtags.specs.declared.parse_error.ParseError.TheVariants.{InvalidLanguage, InvalidSubtag, InvalidExtension, DuplicatedExtension, OutOfMemory}
use Rattle.iloc_subtags.specs.Judging.{Answers, RunsOutOnlyIf, Accepts, Refuses}

-- a text means one value, or has one fault
pub record Judges {V : Type 0} (Means : V → Type 0) (HasFault : Fault → Type 0) : Type 0 where
  pub one : (v w : V) → Means v → Means w → v ≡ w
  pub apart : (v : V) (f : Fault) → Means v → HasFault f → ⊥
  pub one_fault : (f g : Fault) → HasFault f → HasFault g → f ≡ g

module _ {X V : Type 0} (value : X → V) {Means : V → Type 0} {HasFault : Fault → Type 0} (Wants : Type 0)
    (judges : Judges Means HasFault) where
  pub accepts : (r : Result X ParseError) → Answers (λ x. Means (value x)) HasFault Wants r → (v : V) →
      Means v → Accepts value Wants v r
  accepts (Ok x) h v m = judges.one (value x) v h m
  accepts (Err InvalidLanguage) h v m = judges.apart v faults.InvalidLanguage m h
  accepts (Err InvalidSubtag) h v m = judges.apart v faults.InvalidSubtag m h
  accepts (Err InvalidExtension) h v m = judges.apart v faults.InvalidExtension m h
  accepts (Err DuplicatedExtension) h v m = judges.apart v faults.DuplicatedExtension m h
  accepts (Err OutOfMemory) h v m = h

  pub refuses : (r : Result X ParseError) → Answers (λ x. Means (value x)) HasFault Wants r → (f : Fault) →
      HasFault f → Refuses Wants f r
  refuses (Ok x) h f k = judges.apart (value x) f h k
  refuses (Err InvalidLanguage) h f k = judges.one_fault faults.InvalidLanguage f h k
  refuses (Err InvalidSubtag) h f k = judges.one_fault faults.InvalidSubtag f h k
  refuses (Err InvalidExtension) h f k = judges.one_fault faults.InvalidExtension f h k
  refuses (Err DuplicatedExtension) h f k = judges.one_fault faults.DuplicatedExtension f h k
  refuses (Err OutOfMemory) h f k = h

-- an answer is a meaning or a fault, and when memory may run out: each by itself

module _ {X : Type 0} (IsMeant : X → Type 0) (HasFault : Fault → Type 0) (Wants : Type 0) where
  pub without_memory : (r : Result X ParseError) → Answers IsMeant HasFault Wants r →
      Answers IsMeant HasFault ⊤ r
  without_memory (Ok x) h = h
  without_memory (Err InvalidLanguage) h = h
  without_memory (Err InvalidSubtag) h = h
  without_memory (Err InvalidExtension) h = h
  without_memory (Err DuplicatedExtension) h = h
  without_memory (Err OutOfMemory) h = tt

  pub runs_out : (r : Result X ParseError) → Answers IsMeant HasFault Wants r → RunsOutOnlyIf Wants r
  runs_out (Ok x) h = tt
  runs_out (Err InvalidLanguage) h = tt
  runs_out (Err InvalidSubtag) h = tt
  runs_out (Err InvalidExtension) h = tt
  runs_out (Err DuplicatedExtension) h = tt
  runs_out (Err OutOfMemory) h = h

  pub with_memory : (r : Result X ParseError) → Answers IsMeant HasFault ⊤ r → RunsOutOnlyIf Wants r →
      Answers IsMeant HasFault Wants r
  with_memory (Ok x) h m = h
  with_memory (Err InvalidLanguage) h m = h
  with_memory (Err InvalidSubtag) h m = h
  with_memory (Err InvalidExtension) h m = h
  with_memory (Err DuplicatedExtension) h m = h
  with_memory (Err OutOfMemory) h m = m

-- the same of what a program tells: a value or a fault
pub told : {V : Type 0} (r : Result V Fault) → Judges (λ v. r ≡ Ok v) (λ f. r ≡ Err f)
told {V = V} r = record {
  one = λ v w h k. same_ok (sym h ∙ k);
  apart = λ v f h k. not_both (sym h ∙ k);
  one_fault = λ f g h k. same_err (sym h ∙ k);
}
  where
    same_ok : {x y : V} → ◌≡◌ {A = Result V Fault} (Ok x) (Ok y) → x ≡ y
    same_ok e = cc

    same_err : {e f : Fault} → ◌≡◌ {A = Result V Fault} (Err e) (Err f) → e ≡ f
    same_err h = cc

    not_both : {x : V} {f : Fault} → ◌≡◌ {A = Result V Fault} (Ok x) (Err f) → ⊥
    not_both e = cc
