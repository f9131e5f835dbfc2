-- From outlines and parts to what a text is read as.
use Rattle.std.proofs.Common.{◌≡◌, ◌≤◌, length, refl, arith}
use Rattle.iloc_spec_grammar.specs.Syntax.{Text, pieces, languages, Identifier}
use Rattle.iloc_spec_grammar.specs.Meaning as grammar
use Rattle.iloc_spec_grammar.specs.Meaning.{Means, IdentifierMeans}
use Rattle.iloc_spec_grammar.specs.Values.{identifier_text, text}
use Rattle.iloc_spec_grammar.proofs.AnySteps.{shortest, length-identifier_means}
use Rattle.iloc_spec_parts.specs.DataLocales.{DataMeans, data_text}
use Rattle.iloc_calls.proofs.Bounds.{parts_fit}
use Rattle.iloc_data_parts.specs.PartsReading as parts
use Rattle.iloc_data_parts.specs.declared.parts.DataParts.{DataParts}
use Rattle.iloc_outline.specs.Outlines.{Gives}
use Rattle.iloc_outline.specs.declared.outline.Outline.{Outline}
use Rattle.iloc_spans.specs.declared.spans.Spans.{Spans}
use Rattle.iloc_normalize.specs.declared.Mode.TheVariants.{Langid, Locale, Data}
use Rattle.locale_web.specs.Reading.{IsReadInto, IsNormalWithin}
use Rattle.locale_web.specs.declared.reading.ReadText.TheVariants as read_texts

-- an identifier's outline gives its normal text, which is as long
pub identifier_outlined : (t : Text) (spans : Spans) (o : Outline) (i : Identifier) →
    IdentifierMeans languages (pieces t) i
    → Gives t o spans (identifier_text i) → IsReadInto Langid t spans (read_texts.Outlined o)
identifier_outlined t spans o i m g =
    let long : length (identifier_text i) ≡ length t = length-identifier_means languages t i m in
    (identifier_text i, record { meant = (i, m, refl); few = omega (arith, long) }, g)

-- a locale's outline gives its normal text, which is no longer
pub locale_outlined : (t : Text) (spans : Spans) (o : Outline) (M : grammar.Locale) → Means languages t M
    → Gives t o spans (text M) → IsReadInto Locale t spans (read_texts.Outlined o)
locale_outlined t spans o M m g =
    let long : length (text M) ≤ length t = shortest languages t M m in
    (text M, record { meant = (M, m, refl); few = omega (arith, long) }, g)

-- the parts of a data locale have its normal text
pub parts_within : (t : Text) (p : DataParts) → DataMeans languages t (parts.value_of p) →
    IsNormalWithin Data t 4 (data_text (parts.value_of p))
parts_within t p m = record { meant = (parts.value_of p, m, refl); few = parts_fit t p m }
