-- What the readers of transforms answer.
use Rattle.std.specs.Prelude.{◌≡◌, ⊤, true, List, Option, option_map, Result}
use Rattle.iloc_spec_grammar.specs.Syntax.{Text, code_t, pieces, languages}
use Rattle.iloc_spec_grammar.specs.Syntax as written
use Rattle.iloc_spec_grammar.specs.Reading.{rest_of}
use Rattle.iloc_spec_parts.specs.Fronts.{FrontRead, BeginsField, TransformRead, TransformFault}
use Rattle.iloc_spec_parts.specs.Parts.{begins_part, is_letter, TransformText, TransformTextFault}
use Rattle.iloc_subtags.specs.declared.parse_error.ParseError.{ParseError}
use Rattle.iloc_subtags.specs.Judging.{Answers}
use Rattle.iloc_langid.specs.Reads as langid
use Rattle.iloc_transform.specs.LangReading.{HasFiveVariants}
use Rattle.iloc_transform.specs.declared.transform.Transform.{Transform}

-- the value of a transform
abbrev pub value_of : Transform → written.TransformOf written.Meant
value_of m = record { id = option_map langid.value_of m.lang; fields = m.fields }

-- memory may run out for a fifth variant, and for a field
pub data TransformWantsMemory (ps : List Text) : Type 0 where
  variants : HasFiveVariants ps → TransformWantsMemory ps
  fields : {id : Option written.SpelledIdentifier} {middle : List Text}
      → FrontRead languages ps id middle → BeginsField middle → TransformWantsMemory ps

-- what the pieces after `t` are read as, and the pieces that are left
abbrev pub TransformReads : List Text → List Text → Result Transform ParseError → Type 0
TransformReads ps rest = Answers (λ m. TransformRead languages ps (value_of m) rest)
    (TransformFault languages ps) ⊤

-- the same, and when memory may run out
abbrev pub TransformFills : List Text → List Text → Result Transform ParseError → Type 0
TransformFills ps rest = Answers (λ m. TransformRead languages ps (value_of m) rest)
    (TransformFault languages ps) (TransformWantsMemory ps)

-- memory may run out on a text only after `t`, the letter of such an extension
abbrev pub TransformTextWants : Text → Type 0
TransformTextWants t = (begins_part (is_letter code_t) (pieces t) ≡ true)
    × TransformWantsMemory (rest_of (pieces t))

-- what a text is read as
abbrev pub TransformTextReads : Text → Result Transform ParseError → Type 0
TransformTextReads t = Answers (λ m. TransformText languages t (value_of m))
    (TransformTextFault languages t) ⊤
