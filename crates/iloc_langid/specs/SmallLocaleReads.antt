-- What the reader of small locales answers.
use Rattle.std.specs.Prelude.{Option, Result}
use Rattle.iloc_spec_grammar.specs.Syntax.{Text, languages}
use Rattle.iloc_spec_parts.specs.Small.{SmallLocale, IsSmall, HasSmallFault}
use Rattle.iloc_subtags.specs.declared.parse_error.ParseError.{ParseError}
use Rattle.iloc_subtags.specs.Judging.{Answers}

-- a key, and perhaps a value
abbrev pub Keyword : Type 0
Keyword = Text × Option Text

-- a language, and perhaps a script, a region, a variant and a keyword
abbrev pub LocaleParts : Type 0
LocaleParts = Text × Option Text × Option Text × Option Text × Option Keyword

-- the small locale of the parts that are read
abbrev pub small_locale_of : LocaleParts → SmallLocale
small_locale_of (l, s, r, v, k) = record {
  id = record { language = l; script = s; region = r; variant = v };
  keyword = k;
}

-- what a text is read as, as a whole; it allocates nothing
abbrev pub SmallLocaleTextReads : Text → Result LocaleParts ParseError → Type 0
SmallLocaleTextReads t = Answers (λ p. IsSmall languages t (small_locale_of p))
    (HasSmallFault languages t) ⊥
