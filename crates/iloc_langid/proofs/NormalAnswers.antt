-- From what normalizing answers to what it owes a text: the text of what is meant, or the fault.
use Rattle.std.specs.Prelude.{⊤}
use Rattle.std.proofs.Common.{◌≡◌, sym, ap, ◌∙◌, Result, Ok, Err, IfOk, IfErr, arith}
use Rattle.iloc_spec_grammar.specs.Meaning.{Fault}
use Rattle.iloc_subtags.specs.declared.parse_error.ParseError.{ParseError}
use Rattle.iloc_subtags.specs.Judging.{Answers, Refusal, Accepts, Refuses}
use Rattle.iloc_subtags.proofs.Judged.{Judges, accepts, refuses}
use Rattle.iloc_spec_grammar.specs.Syntax.{Text}

module _ {X M : Type 0} (bytes : X → Text) (print : M → Text) {Means : M → Type 0}
    {HasFault : Fault → Type 0} (judges : Judges Means HasFault) where
  -- the text of what is meant
  abbrev IsPrinted : Text → Type 0
  IsPrinted t = (m : M) × Means m × (t ≡ print m)

  prints_judge : Judges IsPrinted HasFault
  prints_judge = record {
    one = λ t u h k. h.2 ∙ ap print (judges.one h.0 k.0 h.1 k.1) ∙ sym k.2;
    apart = λ t f h k. judges.apart h.0 f h.1 k;
    one_fault = judges.one_fault;
  }

  prints : {Q : X → Type 0} (r : Result X ParseError) → IfOk r Q → IfErr r (Refusal HasFault ⊤) →
      ((x : X) → Q x → IsPrinted (bytes x)) → Answers (λ x. IsPrinted (bytes x)) HasFault ⊤ r
  prints (Ok x) h k texts = texts x h
  prints (Err e) h k texts = k

  pub prints_accepts : {Q : X → Type 0} (r : Result X ParseError) → IfOk r Q → IfErr r (Refusal HasFault ⊤) →
      ((x : X) → Q x → IsPrinted (bytes x)) → (m : M) → Means m → Accepts bytes ⊤ (print m) r
  prints_accepts r h k texts m is = grind (arith, accepts, prints_judge)

  pub prints_refuses : {Q : X → Type 0} (r : Result X ParseError) → IfOk r Q → IfErr r (Refusal HasFault ⊤) →
      ((x : X) → Q x → IsPrinted (bytes x)) → (f : Fault) → HasFault f → Refuses ⊤ f r
  prints_refuses r h k texts = refuses bytes ⊤ prints_judge r (prints r h k texts)
