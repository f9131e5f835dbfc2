-- What the walk says, in the words of the definitions.
use Rattle.std.proofs.Common.{◌≡◌, ◌≢◌, ◌↔◌, inl, inr, ℕ, ◌≤◌, ◌∷◌, ◌++◌, length, Option, Some, None, IfSome, sym, ap, ◌∙◌, arith, length-append, true≢false}
use Rattle.std.proofs.lemmas.List.Concat.{flat_map-append}
use Rattle.iloc_spec_grammar.specs.Syntax.{Text, pieces, dashes}
use Rattle.iloc_spec_grammar.specs.Meaning as grammar
use Rattle.iloc_subtags.specs.declared.parse_error.ParseError.{ParseError}
use Rattle.iloc_subtags.specs.Judging.{Refusal, error_of}
use Rattle.iloc_normalize.specs.declared.Mode.{Mode}
use Rattle.iloc_normalize.specs.declared.Mode.TheVariants.{Data}
use Rattle.iloc_faults.specs.declared.Fault.{Fault}
use Rattle.iloc_faults.specs.Next.{started, outcome}
use Rattle.iloc_faults.specs.Places.{IsAccepted, IsFaultPlace, IsFault}
use Rattle.iloc_faults.specs.States.{IsFaultFound}
use Rattle.iloc_faults.proofs.DataSteps.{fine}
use Rattle.iloc_faults.proofs.Answers.{accepted_is, faulty_is}
use Rattle.iloc_pieces.proofs.CursorLemmas.{dashed}

-- the error names the fault
refused : (Has : grammar.Fault → Type 0) (f : grammar.Fault) (e : ParseError) → e ≡ error_of f → Has f →
    Refusal Has ⊥ e
refused Has f e h x = grind arith

-- what is found is no accepted text
found_not : (mode : Mode) (t : Text) (f : Fault) → IsFaultFound mode t f → ¬ (IsAccepted mode t)
found_not mode t f h a = true≢false (sym ((accepted_is mode t).0 a) ∙ ap fine h.has)

pub good_is : (mode : Mode) (t : Text) (o : Option Fault) →
    (o ≡ None → outcome mode started (pieces t) ≡ None) → IfSome o (IsFaultFound mode t) →
    (o ≡ None) ↔ IsAccepted mode t
good_is mode t o h k = grind (arith, accepted_is, fine, found_not)

pub bad_is : (mode : Mode) (t : Text) → mode ≢ Data → (o : Option Fault) → IfSome o (IsFaultFound mode t) →
    IfSome o (IsFault mode t)
bad_is mode t h o k = grind (arith, refused, faulty_is)

-- ---- the place lies within the text

pub place_inside : (mode : Mode) (t : Text) (a b : ℕ) → IsFaultPlace mode t a b → (a ≤ b) × (b ≤ length t)
place_inside mode t a b (inr p) = grind arith
place_inside mode t a b (inl p) =
    let x = p.from in
    let y = p.to in
    let all : 45 ∷ t ≡ dashes p.before ++ dashes (p.piece ∷ p.after) =
    sym (dashed t) ∙ ap dashes p.cut
    ∙ flat_map-append (λ (q : Text). 45 ∷ q) p.before (p.piece ∷ p.after) in (
      omega arith,
      omega (
        arith,
        ap length all,
        length-append (dashes p.before) (dashes (p.piece ∷ p.after)),
        length-append p.piece (dashes p.after),
      ),
    )

pub inside_is : (mode : Mode) (t : Text) (o : Option Fault) → IfSome o (IsFault mode t) →
    IfSome o (λ f. (f.start ≤ f.end) × (f.end ≤ length t))
inside_is mode t None h = tt
inside_is mode t (Some f) h = place_inside mode t f.start f.end h.place

-- a text with a fault means nothing, and its fault stands within it
pub place_is : (mode : Mode) (t : Text) (f : Fault) → IsFaultFound mode t f →
    ¬ (IsAccepted mode t) × IsFaultPlace mode t f.start f.end × (f.start ≤ f.end) × (f.end ≤ length t)
place_is mode t f h =
    let p = place_inside mode t f.start f.end h.place in
    (found_not mode t f h, h.place, p.0, p.1)
