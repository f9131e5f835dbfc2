-- What the reader of transforms owes to each text.
use Rattle.std.proofs.Common.{ap, Result}
use Rattle.std.specs.Prelude.{⊤}
use Rattle.iloc_spec_grammar.specs.Syntax.{code_t, Text, languages, pieces}
use Rattle.iloc_spec_grammar.specs.Syntax as written
use Rattle.iloc_spec_grammar.proofs.RawLaws.{languages_table}
use Rattle.iloc_spec_grammar.specs.Meaning.{Fault}
use Rattle.iloc_subtags.specs.declared.parse_error.ParseError.{ParseError}
use Rattle.iloc_subtags.specs.Judging.{Accepts, Refuses}
use Rattle.iloc_subtags.proofs.Judged.{Judges, accepts, refuses}
use Rattle.iloc_spec_parts.specs.Parts.{TransformText, TransformTextFault}
use Rattle.iloc_spec_parts.proofs.PartReaders.{transform_part}
use Rattle.iloc_transform.specs.declared.transform.Transform.{Transform}
use Rattle.iloc_transform.specs.TransformReading.{value_of, TransformTextReads}

transform_judges : (t : Text) → Judges (TransformText languages t) (TransformTextFault languages t)
transform_judges t = record {
  one = λ v x h k. ap (λ p. p.1)
      ((transform_part languages languages_table).one (pieces t) (code_t, v) (code_t, x) h.0 k.0 h.1 k.1).0;
  apart = λ v f h k. (transform_part languages languages_table).apart (pieces t) (code_t, v) h.0 f h.1 k;
  one_fault = (transform_part languages languages_table).one_fault (pieces t);
}

pub transform_accepts : (t : Text) (r : Result Transform ParseError) → TransformTextReads t r →
    (v : written.Transform) → TransformText languages t v → Accepts value_of ⊤ v r
transform_accepts t r h = accepts value_of ⊤ (transform_judges t) r h

pub transform_refuses : (t : Text) (r : Result Transform ParseError) → TransformTextReads t r →
    (f : Fault) → TransformTextFault languages t f → Refuses ⊤ f r
transform_refuses t r h = refuses value_of ⊤ (transform_judges t) r h
