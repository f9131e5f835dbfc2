-- The transform extension of a locale, t, and its private extension, x: what setting their parts
-- does.
use Rattle.std.specs.Prelude.{◌≡◌, ◌≢◌, ◌⊎◌, true, List, [], Option, Some, None, option_map, is_some}
use Rattle.std.specs.FinMap.{find}
use Rattle.iloc_spec_grammar.specs.Syntax.{Text, pieces, languages, word_cmp, Identifier, Fields}
use Rattle.iloc_spec_grammar.specs.Meaning.{Locale, IdentifierMeans, HasIdentifierFault}
use Rattle.iloc_spec_grammar.specs.Values.{identifier_text}
use Rattle.iloc_spec_parts.specs.PartValues.{transform_value}
use Rattle.iloc_spec_parts.specs.Parts.{PrivateText, PrivateTextFault}
use Rattle.iloc_langid.specs.Reads.{IdentifierWantsMemory}
use Rattle.iloc_transform.specs.ValueReading.{FieldValueTextWants}
use Rattle.iloc_other.specs.Reading.{PrivateTextWants}
use Rattle.iloc_handles.specs.Finding.{Changing, Sets}
use Rattle.iloc_handles.specs.Pairs.{Map}

-- the identifier of the transform is another, and all else is the same
abbrev pub with_transform_language : Option Identifier → Locale → Locale
with_transform_language o M =
    let m = M.extensions.transform in
    record M { extensions = record M.extensions { transform = record m { id = o } } }

-- its text, if there is one
abbrev pub transform_language : Locale → Option Text
transform_language M = option_map identifier_text M.extensions.transform.id

-- an empty text is no identifier, and another one means its identifier
abbrev pub IsOptionalIdentifier : Text → Option Identifier → Type 0
IsOptionalIdentifier t None = t ≡ []
IsOptionalIdentifier t (Some i) = IdentifierMeans languages (pieces t) i

-- the identifier of the transform becomes that of the text, or absent
abbrev pub SetsTransformLanguage : Text → Changing
SetsTransformLanguage t = Sets
    (λ before after. (o : Option Identifier) × IsOptionalIdentifier t o
    × (after ≡ with_transform_language o before))
    (λ f. (t ≢ []) × HasIdentifierFault languages (pieces t) f) (IdentifierWantsMemory (pieces t))

-- the fields
abbrev pub fields_of : Locale → Fields
fields_of M = M.extensions.transform.fields

-- the fields are others, and all else is the same
abbrev pub with_fields : Fields → Locale → Locale
with_fields fs M =
    let m = M.extensions.transform in
    record M { extensions = record M.extensions { transform = record m { fields = fs } } }

-- memory may be wanted only for a value of more than four subtags, or for a key that is not there
abbrev pub fields : Map (List Text)
fields = record {
  pairs = fields_of;
  with_pairs = with_fields;
  value = transform_value;
  ValueWants = FieldValueTextWants;
  KeyWants = λ k fs. is_some (find word_cmp k fs) ≢ true;
}

-- the private subtags are others, and all else is the same
abbrev pub with_private : List Text → Locale → Locale
with_private ws M = record M { extensions = record M.extensions { private = ws } }

-- an empty text has no private subtags, and another one is `x` and some
abbrev pub IsOptionalPrivate : Text → List Text → Type 0
IsOptionalPrivate t ws = ((t ≡ []) × (ws ≡ [])) ⊎ PrivateText t ws

-- the private subtags become those of the text
abbrev pub SetsPrivate : Text → Changing
SetsPrivate t = Sets
    (λ before after. (ws : List Text) × IsOptionalPrivate t ws × (after ≡ with_private ws before))
    (λ f. (t ≢ []) × PrivateTextFault t f) (PrivateTextWants t)
