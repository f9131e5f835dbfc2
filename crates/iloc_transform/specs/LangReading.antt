-- What the reader of a transform's identifier answers.
use Rattle.std.specs.Prelude.{◌≡◌, ◌<◌, List, length, Option, option_map, Result}
use Rattle.iloc_spec_grammar.specs.Syntax.{Text, languages, SpelledIdentifier}
use Rattle.iloc_spec_grammar.specs.Meaning.{normal_identifier, RepeatsVariant}
use Rattle.iloc_spec_grammar.specs.Meaning as faults
use Rattle.iloc_spec_grammar.specs.Reading.{IdentifierFront}
use Rattle.iloc_spec_parts.specs.Fronts.{FrontRead}
use Rattle.iloc_subtags.specs.declared.parse_error.ParseError.{ParseError}
use Rattle.iloc_subtags.specs.Judging.{Answers, Only}
use Rattle.iloc_langid.specs.Reads.{value_of}
use Rattle.iloc_langid.specs.declared.identifier.LanguageIdentifier.{LanguageIdentifier}

-- an identifier was read, or there is none
pub record LangRead (ps : List Text) (lang : Option LanguageIdentifier)
    (rest : List Text) : Type 0 where
  pub written : Option SpelledIdentifier
  pub front : FrontRead languages ps written rest
  pub means : option_map value_of lang ≡ option_map normal_identifier written

-- the longest front of an identifier's words has more than four variants
pub record HasFiveVariants (ps : List Text) : Type 0 where
  pub written : SpelledIdentifier
  pub rest : List Text
  pub front : IdentifierFront languages ps written rest
  pub many : 4 < length written.variants

-- what the pieces are read as, and the pieces that are left
abbrev pub LangFills : List Text → List Text → Result (Option LanguageIdentifier) ParseError
    → Type 0
LangFills ps rest = Answers (λ lang. LangRead ps lang rest)
    (Only faults.InvalidSubtag (RepeatsVariant languages ps)) (HasFiveVariants ps)
