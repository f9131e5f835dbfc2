-- What the readers of a field's value answer.
use Rattle.std.specs.Prelude.{◌≡◌, ⊤, ◌<◌, false, List, [], length, Result, Ok, Err}
use Rattle.iloc_spec_grammar.specs.Syntax.{Text, pieces, Attribute, is_word, is_true}
use Rattle.iloc_spec_grammar.specs.Meaning.{normal_values}
use Rattle.iloc_spec_grammar.specs.Values.{IsNormal}
use Rattle.iloc_spec_grammar.specs.Reading.{past}
use Rattle.iloc_spec_grammar.specs.Meaning as faults
use Rattle.iloc_spec_parts.specs.Fronts.{attributes_front}
use Rattle.iloc_spec_parts.specs.PartValues.{transform_value}
use Rattle.iloc_subtags.specs.declared.parse_error.ParseError.{ParseError}
use Rattle.iloc_subtags.specs.Judging.{Answers, Only}

-- what a value holds: words of 3 to 8 letters or digits in lower case, and none is `true`
abbrev pub IsValueWord : Text → Type 0
IsValueWord w = IsNormal Attribute w × (is_true w ≡ false)

-- What the pieces at the front are read as, and the pieces that are left: pieces of a value have
-- the form of attributes. Memory may run out only for a fifth subtag.
abbrev pub FieldValueReads : List Text → List Text → Result (List Text) ParseError → Type 0
FieldValueReads ps rest = Answers
    (λ v. (0 < length (attributes_front ps)) × (v ≡ normal_values (attributes_front ps))
    × (rest ≡ past (is_word Attribute) ps))
    (Only faults.InvalidExtension (attributes_front ps ≡ []))
    (4 < length (normal_values (attributes_front ps)))

-- memory may run out on a text only for a fifth subtag
abbrev pub FieldValueTextWants : Text → Type 0
FieldValueTextWants t = 4 < length (normal_values (attributes_front (pieces t)))

-- what a text is read as
abbrev pub FieldValueTextReads : Text → Result (List Text) ParseError → Type 0
FieldValueTextReads t = Answers (λ v. transform_value t ≡ Ok v) (λ f. transform_value t ≡ Err f) ⊤
