-- What the reader of fields answers.
use Rattle.std.specs.Prelude.{◌≡◌, false, List, Result}
use Rattle.std.specs.List.{AllByRecursion, list_all}
use Rattle.iloc_spec_grammar.specs.Syntax.{Text, TransformKey, Fields, fields_pieces, IsField}
use Rattle.iloc_spec_grammar.specs.Meaning.{normal_fields}
use Rattle.iloc_spec_grammar.specs.Meaning as faults
use Rattle.iloc_spec_grammar.specs.Values.{IsNormal}
use Rattle.iloc_spec_parts.specs.Fronts.{fields_front, after_fields, BeginsField, fields_at}
use Rattle.iloc_spec_grammar.specs.Computing.{is_field}
use Rattle.iloc_subtags.specs.declared.parse_error.ParseError.{ParseError}
use Rattle.iloc_subtags.specs.Judging.{Answers, Only}
use Rattle.iloc_transform.specs.ValueReading.{IsValueWord}

-- what fields hold: a key with the words of a value
abbrev pub IsFieldPair : Text × List Text → Type 0
IsFieldPair (key, values) = IsNormal TransformKey key × AllByRecursion IsValueWord values

-- the front spells fields, which mean m
pub record FieldsRead (ps : List Text) (m : Fields) (rest : List Text) : Type 0 where
  pub written : Fields
  pub fields : AllByRecursion IsField written
  pub spelled : fields_front ps ≡ fields_pieces written
  pub means : m ≡ normal_fields written
  pub left : rest ≡ after_fields ps

-- What the pieces at the front are read as, and the pieces that are left. The first field may
-- allocate.
abbrev pub FieldsFills : List Text → List Text → Result Fields ParseError → Type 0
FieldsFills ps rest = Answers (λ m. FieldsRead ps m rest)
    (Only faults.InvalidExtension (list_all is_field (fields_at ps) ≡ false)) (BeginsField ps)
