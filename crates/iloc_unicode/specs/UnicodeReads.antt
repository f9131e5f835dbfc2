-- What the readers of the unicode extension answer, by cases on the whole answer.
use Rattle.std.specs.Prelude.{◌≡◌, ⊤, true, List, Result}
use Rattle.iloc_spec_grammar.specs.Syntax.{Text, code_u, pieces}
use Rattle.iloc_spec_grammar.specs.Reading.{rest_of}
use Rattle.iloc_spec_parts.specs.Fronts.{after_attributes, UnicodeRead, UnicodeFault}
use Rattle.iloc_spec_parts.specs.Parts.{begins_part, is_letter, UnicodeText, UnicodeTextFault}
use Rattle.iloc_subtags.specs.declared.parse_error.ParseError.{ParseError}
use Rattle.iloc_subtags.specs.Judging.{Answers}
use Rattle.iloc_unicode.specs.declared.unicode.Unicode.{Unicode}
use Rattle.iloc_unicode.specs.Reads.{AttributesWantMemory, KeywordsWantMemory}
use Rattle.iloc_unicode.specs.UnicodeValue.{value_of}

-- for what memory may run out after `u`: a fifth attribute, or as for keywords
pub data UnicodeWantsMemory (ps : List Text) : Type 0 where
  fifth_attribute : AttributesWantMemory ps → UnicodeWantsMemory ps
  for_keywords : KeywordsWantMemory (after_attributes ps) → UnicodeWantsMemory ps

-- of the pieces ps, which stand after `u`, an extension was read, and rest is left
abbrev pub UnicodeReads : List Text → List Text → Result Unicode ParseError → Type 0
UnicodeReads ps rest = Answers (λ u. UnicodeRead ps (value_of u) rest) (UnicodeFault ps) ⊤

-- the same, and when memory may run out
abbrev pub UnicodeFills : List Text → List Text → Result Unicode ParseError → Type 0
UnicodeFills ps rest = Answers (λ u. UnicodeRead ps (value_of u) rest)
    (UnicodeFault ps) (UnicodeWantsMemory ps)

-- for what memory may run out in a text: only after `u`
abbrev pub UnicodeTextWants : Text → Type 0
UnicodeTextWants t = (begins_part (is_letter code_u) (pieces t) ≡ true)
    × UnicodeWantsMemory (rest_of (pieces t))

-- the text is read, `u` and all
abbrev pub UnicodeTextReads : Text → Result Unicode ParseError → Type 0
UnicodeTextReads t = Answers (λ u. UnicodeText t (value_of u)) (UnicodeTextFault t) ⊤
