-- The text of each part that has a name, if there is such a part.
use Rattle.std.specs.Prelude.{Option, Some}
use Rattle.iloc_spec_grammar.specs.Syntax.{Text}
use Rattle.iloc_spec_grammar.specs.Meaning as meaning
use Rattle.iloc_spec_grammar.specs.Values.{identifier_text, private_text, text}
use Rattle.iloc_handles.specs.declared.parts.Named.{Named}
use Rattle.iloc_handles.specs.declared.parts.Named.TheVariants.{Whole, BaseName, Language, Script, Region}
use Rattle.iloc_handles.specs.declared.parts.Named.TheVariants.{TransformLanguage, Private, Calendar}
use Rattle.iloc_handles.specs.declared.parts.Named.TheVariants.{HourCycle, NumberingSystem}
use Rattle.iloc_handles.specs.Data.{calendar_text, hours_text, numbering_text}
use Rattle.iloc_handles.specs.Identifier.{text_or_empty}
use Rattle.iloc_handles.specs.Transform.{transform_language}

abbrev pub text_of_part : Named → meaning.Locale → Option Text
text_of_part Whole M = Some (text M)
text_of_part BaseName M = Some (identifier_text M.id)
text_of_part Language M = Some M.id.language
text_of_part Script M = Some (text_or_empty M.id.script)
text_of_part Region M = Some (text_or_empty M.id.region)
text_of_part TransformLanguage M = transform_language M
text_of_part Private M = Some (private_text M.extensions.private)
text_of_part Calendar M = calendar_text M
text_of_part HourCycle M = hours_text M
text_of_part NumberingSystem M = numbering_text M
