-- A part that begins with a singleton.
use Rattle.std.proofs.Common.{◌≡◌, ℕ, Bool, true, false, List, [], ◌∷◌, refl, sym, ap, ◌∙◌, Some, None}
use Rattle.std.specs.Char.{to_ascii_lowercase}
use Rattle.iloc_spec_grammar.specs.Meaning.{Fault, InvalidExtension}
use Rattle.iloc_spec_grammar.specs.Reading.{rest_of}
use Rattle.iloc_spec_parts.specs.Parts.{PartRead, PartFault, no_singleton, after_singleton, begins_part}
use Rattle.iloc_other.specs.Singleton.{singleton_at}
use Rattle.iloc_spec_grammar.specs.Syntax.{Text}

-- the byte of the singleton
found : (ps : List Text) (c : ℕ) → Some c ≡ singleton_at ps →
    (b : ℕ) × (c ≡ to_ascii_lowercase b) × (ps ≡ (b ∷ []) ∷ rest_of ps)
found [] c e = cc
found ([] ∷ ps) c e = cc
found ((b ∷ []) ∷ ps) c e = (b, cc, refl)
found ((b ∷ d ∷ p) ∷ ps) c e = cc

module _ (test : ℕ → Bool) (ps : List Text) where
  pub begins : (c : ℕ) → Some c ≡ singleton_at ps → begins_part test ps ≡ test c
  begins c e = let f = found ps c e in ap (begins_part test) f.2 ∙ ap test (sym f.1)

  begins_none : (qs : List Text) → None ≡ singleton_at qs → begins_part test qs ≡ false
  begins_none [] e = refl
  begins_none ([] ∷ qs) e = refl
  begins_none ((b ∷ []) ∷ qs) e = cc
  begins_none ((b ∷ d ∷ p) ∷ qs) e = refl

  pub part_reads : {X : Type 0} (R : List Text → X → List Text → Type 0) (c : ℕ) (v : X)
      (rest : List Text) →
      Some c ≡ singleton_at ps → test c ≡ true → R (rest_of ps) v rest → PartRead test R ps (c, v) rest
  part_reads R c v rest e t r = let f = found ps c e in
      record { byte = f.0; after = rest_of ps; spelled = f.2; singleton = f.1; passes = t; reads = r }

  pub part_fault : (F : List Text → Fault → Type 0) (c : ℕ) (f : Fault) → Some c ≡ singleton_at ps →
      test c ≡ true → F (rest_of ps) f → PartFault test F ps f
  part_fault F c f e t r = after_singleton (found ps c e).2 (begins c e ∙ t) r

  pub part_other : (F : List Text → Fault → Type 0) (c : ℕ) → Some c ≡ singleton_at ps → test c ≡ false →
      PartFault test F ps InvalidExtension
  part_other F c e t = no_singleton (begins c e ∙ t)

  pub part_none : (F : List Text → Fault → Type 0) → None ≡ singleton_at ps →
      PartFault test F ps InvalidExtension
  part_none F e = no_singleton (begins_none ps e)
