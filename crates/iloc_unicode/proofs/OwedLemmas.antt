-- What the readers owe to each text.
use Rattle.std.specs.Prelude.{⊤}
use Rattle.std.proofs.Common.{List, sym, ap, ◌∙◌, Result}
use Rattle.iloc_spec_grammar.specs.Syntax.{code_u, Text, pieces, Fields}
use Rattle.iloc_spec_grammar.specs.Syntax as written
use Rattle.iloc_spec_grammar.specs.Meaning.{Fault}
use Rattle.iloc_spec_parts.specs.Parts.{AttributesText, KeywordsText, KeywordsTextFault, UnicodeText, UnicodeTextFault}
use Rattle.iloc_spec_parts.proofs.FrontLaws.{keywords_reader}
use Rattle.iloc_spec_parts.proofs.PartReaders.{unicode_part}
use Rattle.iloc_subtags.specs.declared.parse_error.ParseError.{ParseError}
use Rattle.iloc_subtags.specs.Judging.{Accepts, Refuses}
use Rattle.iloc_subtags.proofs.Judged.{Judges, accepts, refuses}
use Rattle.iloc_unicode.specs.declared.unicode.Unicode.{Unicode}
use Rattle.iloc_unicode.specs.UnicodeValue.{value_of}
use Rattle.iloc_unicode.specs.Reads.{AttributesTextReads, KeywordsTextReads}
use Rattle.iloc_unicode.specs.UnicodeReads.{UnicodeTextReads}

attributes_judge : (t : Text) → Judges (AttributesText t) (λ f. ⊥)
attributes_judge t =
    record { one = λ v w h k. h ∙ sym k; apart = λ v f h k. k; one_fault = λ f g h k. absurd h }

pub attributes_accepts : (t : Text) (r : Result (List Text) ParseError) → AttributesTextReads t r →
    (ws : List Text) → AttributesText t ws → Accepts (λ a. a) ⊤ ws r
attributes_accepts t r h = accepts (λ a. a) ⊤ (attributes_judge t) r h

keywords_judges : (t : Text) → Judges (KeywordsText t) (KeywordsTextFault t)
keywords_judges t = record {
  one = λ v x h k. (keywords_reader.one (pieces t) v x h.0 k.0 h.1 k.1).0;
  apart = λ v f h k. keywords_reader.apart (pieces t) v h.0 f h.1 k;
  one_fault = keywords_reader.one_fault (pieces t);
}

pub keywords_accepts : (t : Text) (r : Result Fields ParseError) → KeywordsTextReads t r → (v : Fields) →
    KeywordsText t v → Accepts (λ k. k) ⊤ v r
keywords_accepts t r h = accepts (λ k. k) ⊤ (keywords_judges t) r h

pub keywords_refuses : (t : Text) (r : Result Fields ParseError) → KeywordsTextReads t r → (f : Fault) →
    KeywordsTextFault t f → Refuses ⊤ f r
keywords_refuses t r h = refuses (λ k. k) ⊤ (keywords_judges t) r h

unicode_judges : (t : Text) → Judges (UnicodeText t) (UnicodeTextFault t)
unicode_judges t = record {
  one = λ v x h k. ap (λ p. p.1) (unicode_part.one (pieces t) (code_u, v) (code_u, x) h.0 k.0 h.1 k.1).0;
  apart = λ v f h k. unicode_part.apart (pieces t) (code_u, v) h.0 f h.1 k;
  one_fault = unicode_part.one_fault (pieces t);
}

pub unicode_accepts : (t : Text) (r : Result Unicode ParseError) → UnicodeTextReads t r →
    (v : written.Unicode) → UnicodeText t v → Accepts value_of ⊤ v r
unicode_accepts t r h = accepts value_of ⊤ (unicode_judges t) r h

pub unicode_refuses : (t : Text) (r : Result Unicode ParseError) → UnicodeTextReads t r → (f : Fault) →
    UnicodeTextFault t f → Refuses ⊤ f r
unicode_refuses t r h = refuses value_of ⊤ (unicode_judges t) r h
