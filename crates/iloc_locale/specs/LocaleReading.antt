-- What a `Locale` stands for, what a text is read as, and what it is normalized to.
use Rattle.std.specs.Prelude.{◌≡◌, ◌⊎◌, ⊤, Result, []}
use Rattle.iloc_spec_grammar.specs.Meaning as meaning
use Rattle.iloc_langid.specs.Reads as langid
use Rattle.iloc_langid.specs.Unknown.{unknown_identifier}
use Rattle.iloc_extensions.specs.ExtensionsValue as extensions
use Rattle.iloc_locale.specs.declared.locale.Locale.{Locale}
use Rattle.iloc_spec_grammar.specs.Syntax.{Text, pieces, languages, head, tail_blocks}
use Rattle.iloc_spec_grammar.specs.Meaning.{Means, HasFault, SpellsIdentifier}
use Rattle.iloc_spec_parts.specs.Inline.{ReachesLongBlock}
use Rattle.iloc_subtags.specs.declared.parse_error.ParseError.{ParseError}
use Rattle.iloc_subtags.specs.Judging.{Answers}
use Rattle.iloc_spec_grammar.specs.Values.{text, TextStep, IsNormalizedFrom}

-- the value of a locale: that of its identifier and that of its extensions
abbrev pub value_of : Locale → meaning.Locale
value_of l = record { id = langid.value_of l.id; extensions = extensions.value_of l.extensions }

-- `und` and no extension
abbrev pub unknown_locale : meaning.Locale
unknown_locale = meaning.without_extensions unknown_identifier

-- the text is the language, and no other extension is there: the text is then lent
abbrev pub IsLanguageAlone : Locale → Type 0
IsLanguageAlone l = (text (value_of l) ≡ l.id.language) × (l.extensions.other.items ≡ [])

-- What the readers of locales answer, by cases on the whole answer. The cases exclude one another,
-- so each says both directions.

-- when memory may run out: the head has more than four variants at its front, or is an identifier
-- after which a block is reached that isn't short
abbrev pub LocaleWantsMemory : Text → Type 0
LocaleWantsMemory t = langid.IdentifierWantsMemory (head (pieces t))
    ⊎ (SpellsIdentifier languages (head (pieces t))
    × ReachesLongBlock languages (tail_blocks (pieces t)))

-- what the text is read as: the value that it means, or the fault that the grammar names
abbrev pub LocaleTextReads : Text → Result Locale ParseError → Type 0
LocaleTextReads t = Answers (λ l. Means languages t (value_of l)) (HasFault languages t) ⊤

-- the same, with when memory may run out
abbrev pub LocaleTextAnswers : Text → Result Locale ParseError → Type 0
LocaleTextAnswers t =
    Answers (λ l. Means languages t (value_of l)) (HasFault languages t) (LocaleWantsMemory t)

-- the text means this value and no other: it reads back
abbrev pub MeansOnly : Text → meaning.Locale → Type 0
MeansOnly t M = Means languages t M × ((N : meaning.Locale) → Means languages t N → N ≡ M)

-- What normalizing a locale's text answers.

-- t is the text of what u means
abbrev pub IsTextOf : Text → Text → Type 0
IsTextOf u t = (M : meaning.Locale) × Means languages u M × (t ≡ text M)

-- t is the normal text of input as a locale: at most eight steps lead there
abbrev pub IsNormalizedLocale : Text → Text → Type 0
IsNormalizedLocale = IsNormalizedFrom (Means languages) text (TextStep languages) 8

-- memory may run out only if the reader may allocate, or if the input is accepted and isn't normal
abbrev pub NormalizingWantsMemory : Text → Type 0
NormalizingWantsMemory t = LocaleWantsMemory t
    ⊎ ((M : meaning.Locale) × Means languages t M × ¬ (t ≡ text M))
