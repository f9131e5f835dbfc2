-- What the readers of the private extension and of other extensions answer.
use Rattle.std.specs.Prelude.{◌≡◌, ⊤, ℕ, ◌<◌, true, List, length, Result}
use Rattle.iloc_spec_grammar.specs.Syntax.{Text, code_x, pieces, kept, is_other_singleton, is_word}
use Rattle.iloc_spec_grammar.specs.Syntax.{PrivateSubtag}
use Rattle.iloc_spec_grammar.specs.Reading.{rest_of, passing}
use Rattle.iloc_spec_parts.specs.Fronts.{OtherRead, OtherFault, PrivateRead, PrivateFault, other_front}
use Rattle.iloc_spec_parts.specs.Parts.{begins_part, is_letter, OtherText, OtherTextFault, PrivateText}
use Rattle.iloc_spec_parts.specs.Parts.{PrivateTextFault}
use Rattle.iloc_subtags.specs.declared.parse_error.ParseError.{ParseError}
use Rattle.iloc_subtags.specs.Judging.{Answers}

-- for what memory may run out after `x`: a fifth word
abbrev pub PrivateWantsMemory : List Text → Type 0
PrivateWantsMemory ps = 4 < length (passing (is_word PrivateSubtag) ps)

-- what the pieces after `x` are read as, and the pieces that are left
abbrev pub PrivateReads : List Text → List Text → Result (List Text) ParseError → Type 0
PrivateReads ps rest = Answers (λ ws. PrivateRead ps ws rest) (PrivateFault ps) ⊤

-- the same, and when memory may run out
abbrev pub PrivateFills : List Text → List Text → Result (List Text) ParseError → Type 0
PrivateFills ps rest = Answers (λ ws. PrivateRead ps ws rest)
    (PrivateFault ps) (PrivateWantsMemory ps)

-- memory may run out on a text only after `x`, the letter of such an extension
abbrev pub PrivateTextWants : Text → Type 0
PrivateTextWants t = (begins_part (is_letter code_x) (pieces t) ≡ true)
    × PrivateWantsMemory (rest_of (pieces t))

-- what a text is read as
abbrev pub PrivateTextReads : Text → Result (List Text) ParseError → Type 0
PrivateTextReads t = Answers (PrivateText t) (PrivateTextFault t) ⊤

-- for what memory may run out after the singleton: a fifth word
abbrev pub OtherWantsMemory : List Text → Type 0
OtherWantsMemory ps = 4 < length (kept (other_front ps))

-- what the pieces after the singleton ext are read as, and the pieces that are left
abbrev pub OtherReads : ℕ → List Text → List Text → Result (ℕ × List Text) ParseError → Type 0
OtherReads ext ps rest = Answers (λ (c, ws). (c ≡ ext) × OtherRead ps ws rest) (OtherFault ps) ⊤

-- memory may run out on a text only after the singleton of such an extension
abbrev pub OtherTextWants : Text → Type 0
OtherTextWants t = (begins_part is_other_singleton (pieces t) ≡ true)
    × OtherWantsMemory (rest_of (pieces t))

-- what a text is read as
abbrev pub OtherTextReads : Text → Result (ℕ × List Text) ParseError → Type 0
OtherTextReads t = Answers (OtherText t) (OtherTextFault t) ⊤
