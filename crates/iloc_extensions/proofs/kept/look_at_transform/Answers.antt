use Rattle.std.proofs.Common.{Option, Some, None, IfSome, option_map}
use Rattle.iloc_spec_grammar.specs.Syntax.{languages}
use Rattle.iloc_spec_grammar.specs.Values.{IsIdentifierValue}
use Rattle.iloc_langid.specs.Reads as identifiers
use Rattle.iloc_langid.specs.declared.identifier.LanguageIdentifier.{LanguageIdentifier}
use Rattle.iloc_extensions.proofs.kept.look_at_transform.Goals as goal

value_where_there : (o : Option LanguageIdentifier) →
    IfSome o (λ i. IsIdentifierValue languages (identifiers.value_of i)) →
    IfSome (option_map identifiers.value_of o) (IsIdentifierValue languages)
value_where_there None h = h
value_where_there (Some i) h = h

pub returns : goal.returns
returns c = record {
  id = value_where_there c.args.transform.now.lang c.look_at_lang.ensures;
  fields = c.as_slice.ensures.normal;
  keys_ascend = c.as_slice.ensures.ascending;
}
