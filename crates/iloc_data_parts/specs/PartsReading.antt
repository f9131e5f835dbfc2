-- What the parts that a text names stand for, and what their reader answers.
use Rattle.std.specs.Prelude.{Result}
use Rattle.iloc_spec_grammar.specs.Syntax.{Text, languages}
use Rattle.iloc_spec_parts.specs.DataLocales as parts
use Rattle.iloc_spec_parts.specs.DataLocales.{DataMeans, HasDataFault, made_of}
use Rattle.iloc_subtags.specs.declared.parse_error.ParseError.{ParseError}
use Rattle.iloc_subtags.specs.Judging.{Answers}
use Rattle.iloc_data_parts.specs.declared.parts.DataParts.{DataParts}

-- The data locale that is made of them.
abbrev pub value_of : DataParts → parts.DataLocale
value_of p = made_of p.language p.script p.part p.variant

-- What a text is read as, by cases on the whole answer; it allocates nothing.
abbrev pub PartsTextReads : Text → Result DataParts ParseError → Type 0
PartsTextReads t = Answers (λ p. DataMeans languages t (value_of p))
    (HasDataFault languages t) ⊥
