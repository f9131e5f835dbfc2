-- Words of a role are short.
use Rattle.iloc_spec_grammar.specs.Syntax.{Text, IsWord}
use Rattle.iloc_pieces.specs.Cursor.{IsShortPiece}
use Rattle.iloc_pieces.proofs.CursorLemmas.{short_attribute, short_field_key, short_key, short_variant}
use Rattle.iloc_outline.specs.Reading.{IsOfField, role_kind, role_key}
use Rattle.iloc_spans.specs.Inserting.{IsTried}
use Rattle.iloc_spans.specs.declared.span.Role.{Role}
use Rattle.iloc_spans.specs.declared.span.Role.TheVariants as roles

-- a word of a role, and a key of one
pub short_kind : (r : Role) (p : Text) → IsWord (role_kind r) p → IsShortPiece p
short_kind roles.Variant p h = short_variant p h
short_kind _ p h = short_attribute p h

pub short_key_kind : (r : Role) (p : Text) → IsWord (role_key r) p → IsShortPiece p
short_key_kind roles.Field p h = short_field_key p h
short_key_kind _ p h = short_key p h

-- keys are tried at each place
pub tried : (r : Role) → IsOfField r → IsTried r
tried roles.Variant h = absurd (h tt)
tried roles.Attribute h = absurd (h tt)
tried roles.Keyword h = tt
tried roles.Field h = tt
tried roles.Singleton h = tt
