-- What a text is read as, as a subdivision.
use Rattle.std.specs.Prelude.{◌≡◌, Result, Ok, Err}
use Rattle.iloc_spec_grammar.specs.Syntax.{Text}
use Rattle.iloc_spec_parts.specs.Subdivisions.{Subdivision, subdivision}
use Rattle.iloc_subtags.specs.declared.parse_error.ParseError.{ParseError}
use Rattle.iloc_subtags.specs.Judging.{Answers}

-- The text is read as the subdivision that it names, or refused for what it lacks.
abbrev pub SubdivisionTextReads : Text → Result Subdivision ParseError → Type 0
SubdivisionTextReads t = Answers (λ s. subdivision t ≡ Ok s) (λ f. subdivision t ≡ Err f) ⊥
