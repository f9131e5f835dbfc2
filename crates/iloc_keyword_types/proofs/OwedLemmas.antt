-- What the reader of subdivisions owes to each text.
use Rattle.std.proofs.Common.{◌≡◌, Result, Ok, Err}
use Rattle.iloc_spec_grammar.specs.Meaning.{Fault}
use Rattle.iloc_subtags.specs.declared.parse_error.ParseError.{ParseError}
use Rattle.iloc_subtags.specs.Judging.{Accepts, Refuses}
use Rattle.iloc_subtags.proofs.Judged.{Judges, told, accepts, refuses}
use Rattle.iloc_spec_parts.specs.Subdivisions.{Subdivision, subdivision}
use Rattle.iloc_keyword_types.specs.Subdivisions.{SubdivisionTextReads}
use Rattle.iloc_spec_grammar.specs.Syntax.{Text}

subdivision_judges : (t : Text) → Judges (λ s. subdivision t ≡ Ok s) (λ f. subdivision t ≡ Err f)
subdivision_judges t = told (subdivision t)

pub subdivision_accepts : (t : Text) (r : Result Subdivision ParseError) → SubdivisionTextReads t r →
    (v : Subdivision) → subdivision t ≡ Ok v → Accepts (λ s. s) ⊥ v r
subdivision_accepts t r h = accepts (λ s. s) ⊥ (subdivision_judges t) r h

pub subdivision_refuses : (t : Text) (r : Result Subdivision ParseError) → SubdivisionTextReads t r →
    (f : Fault) → subdivision t ≡ Err f → Refuses ⊥ f r
subdivision_refuses t r h = refuses (λ s. s) ⊥ (subdivision_judges t) r h
