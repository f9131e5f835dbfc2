-- What extensions stand for.
use Rattle.iloc_spec_grammar.specs.Syntax.{Meant}
use Rattle.iloc_spec_grammar.specs.Meaning as meaning
use Rattle.iloc_unicode.specs.UnicodeValue as of_u
use Rattle.iloc_transform.specs.TransformReading as of_t
use Rattle.iloc_extensions.specs.declared.extensions.Extensions.{Extensions}

-- the value of extensions
abbrev pub value_of : Extensions → meaning.ExtensionsOf Meant
value_of e = record {
  unicode = of_u.value_of e.unicode;
  transform = of_t.value_of e.transform;
  private = e.private;
  others = e.other.items;
}
