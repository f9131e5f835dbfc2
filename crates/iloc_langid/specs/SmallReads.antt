-- What the readers of identifiers with at most one variant answer.
use Rattle.std.specs.Prelude.{◌≡◌, false, List, Option, option_map, Result}
use Rattle.iloc_spec_grammar.specs.Syntax.{Text, Language, Script, Region, Variant, is_word, IsWord, lower}
use Rattle.iloc_spec_grammar.specs.Syntax.{title, upper, languages, first_piece}
use Rattle.iloc_spec_grammar.specs.Meaning as faults
use Rattle.iloc_spec_grammar.specs.Reading.{take_first, skip_first, rest_of, after_script, after_region}
use Rattle.iloc_spec_parts.specs.Small.{SmallIdentifier, IsSmallIdentifier, HasSmallIdentifierFault}
use Rattle.iloc_subtags.specs.declared.parse_error.ParseError.{ParseError}
use Rattle.iloc_subtags.specs.Judging.{Answers, Only}

-- a language, and perhaps a script, a region and a variant
abbrev pub Parts : Type 0
Parts = Text × Option Text × Option Text × Option Text

-- the small identifier of the parts that are read
abbrev pub small_of : Parts → SmallIdentifier
small_of (l, s, r, v) = record { language = l; script = s; region = r; variant = v }

-- what the pieces are read as, as a whole; it allocates nothing
abbrev pub SmallReads : List Text → Result Parts ParseError → Type 0
SmallReads ps = Answers (λ p. IsSmallIdentifier languages ps (small_of p))
    (HasSmallIdentifierFault languages ps) ⊥

-- the parts that stand at the front, each if it fits
abbrev pub front_parts : List Text → Parts
front_parts ps = (
  lower (first_piece ps),
  option_map title (take_first (is_word Script) (rest_of ps)),
  option_map upper (take_first (is_word Region) (after_script ps)),
  option_map lower (take_first (is_word Variant) (after_region ps)),
)

-- what is left after them
abbrev pub after_parts : List Text → List Text
after_parts ps = skip_first (is_word Variant) (after_region ps)

-- what the front is read as, and what is left
abbrev pub SmallFrontReads : List Text → List Text → Result Parts ParseError → Type 0
SmallFrontReads ps rest = Answers
    (λ p. IsWord (Language languages) (first_piece ps) × (p ≡ front_parts ps)
    × (rest ≡ after_parts ps))
    (Only faults.InvalidLanguage (is_word (Language languages) (first_piece ps) ≡ false)) ⊥
