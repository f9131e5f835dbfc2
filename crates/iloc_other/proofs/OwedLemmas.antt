-- What the readers owe to each text.
use Rattle.std.proofs.Common.{ℕ, List, ap, Result}
use Rattle.std.specs.Prelude.{⊤}
use Rattle.iloc_spec_grammar.specs.Syntax.{code_x, Text, pieces}
use Rattle.iloc_spec_grammar.specs.Meaning.{Fault}
use Rattle.iloc_subtags.specs.declared.parse_error.ParseError.{ParseError}
use Rattle.iloc_subtags.specs.Judging.{Accepts, Refuses}
use Rattle.iloc_subtags.proofs.Judged.{Judges, accepts, refuses}
use Rattle.iloc_spec_parts.specs.Parts.{OtherText, OtherTextFault, PrivateText, PrivateTextFault}
use Rattle.iloc_spec_parts.proofs.PartReaders.{other_part, private_part}
use Rattle.iloc_other.specs.Reading.{OtherTextReads, PrivateTextReads}

other_judges : (t : Text) → Judges (OtherText t) (OtherTextFault t)
other_judges t = record {
  one = λ o q h k. (other_part.one (pieces t) o q h.0 k.0 h.1 k.1).0;
  apart = λ o f h k. other_part.apart (pieces t) o h.0 f h.1 k;
  one_fault = other_part.one_fault (pieces t);
}

pub other_accepts : (t : Text) (r : Result (ℕ × List Text) ParseError) → OtherTextReads t r →
    (v : ℕ × List Text) → OtherText t v → Accepts (λ o. o) ⊤ v r
other_accepts t r h = accepts (λ o. o) ⊤ (other_judges t) r h

pub other_refuses : (t : Text) (r : Result (ℕ × List Text) ParseError) → OtherTextReads t r →
    (f : Fault) → OtherTextFault t f → Refuses ⊤ f r
other_refuses t r h = refuses (λ o. o) ⊤ (other_judges t) r h

private_judges : (t : Text) → Judges (PrivateText t) (PrivateTextFault t)
private_judges t = record {
  one = λ v x h k. ap (λ p. p.1) (private_part.one (pieces t) (code_x, v) (code_x, x) h.0 k.0 h.1 k.1).0;
  apart = λ v f h k. private_part.apart (pieces t) (code_x, v) h.0 f h.1 k;
  one_fault = private_part.one_fault (pieces t);
}

pub private_accepts : (t : Text) (r : Result (List Text) ParseError) → PrivateTextReads t r →
    (v : List Text) → PrivateText t v → Accepts (λ p. p) ⊤ v r
private_accepts t r h = accepts (λ p. p) ⊤ (private_judges t) r h

pub private_refuses : (t : Text) (r : Result (List Text) ParseError) → PrivateTextReads t r →
    (f : Fault) → PrivateTextFault t f → Refuses ⊤ f r
private_refuses t r h = refuses (λ p. p) ⊤ (private_judges t) r h
