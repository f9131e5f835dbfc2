use Rattle.std.proofs.Common.{subst}
use Rattle.std.specs.List.{AllByRecursion}
use Rattle.iloc_unicode.specs.UnicodeValue.{IsKeywordValue}
use Rattle.iloc_extensions.proofs.kept.look_at_unicode.Goals as goal

pub returns : goal.returns
returns c = record {
  attributes = c.as_slice.ensures.normal;
  ascending = c.as_slice.ensures.ascending;
  keywords = subst (AllByRecursion IsKeywordValue) c.as_slice-2.ensures.pairs c.look_at_keywords.ensures;
  keys_ascend = c.as_slice-2.ensures.ascending;
}
