-- What a text is read as, as a whole value.
use Rattle.std.specs.Prelude.{◌≡◌, ⊤, ◌<◌, List, length, Result, Ok, Err}
use Rattle.iloc_spec_grammar.specs.Syntax.{Text, pieces, Subtag, is_word}
use Rattle.iloc_spec_grammar.specs.Meaning.{normal_values}
use Rattle.iloc_spec_grammar.specs.Reading.{passing}
use Rattle.iloc_spec_parts.specs.PartValues.{unicode_value}
use Rattle.iloc_subtags.specs.declared.parse_error.ParseError.{ParseError}
use Rattle.iloc_subtags.specs.Judging.{Answers}

-- memory may run out only for a fifth word besides `true`
abbrev pub ValueTextWants : Text → Type 0
ValueTextWants t = 4 < length (normal_values (passing (is_word Subtag) (pieces t)))

-- by cases on the answer
abbrev pub ValueTextReads : Text → Result (List Text) ParseError → Type 0
ValueTextReads t = Answers (λ v. unicode_value t ≡ Ok v) (λ f. unicode_value t ≡ Err f) ⊤
