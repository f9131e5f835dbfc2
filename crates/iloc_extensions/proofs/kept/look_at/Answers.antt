use Rattle.std.proofs.Common.{subst}
use Rattle.std.specs.List.{AllByRecursion}
use Rattle.iloc_spec_grammar.specs.Syntax.{Subtag}
use Rattle.iloc_spec_grammar.specs.Values.{IsNormal}
use Rattle.iloc_extensions.proofs.kept.look_at.Goals as goal

pub returns : goal.returns
returns c = record {
  unicode = c.look_at_unicode.ensures;
  transform = c.look_at_transform.ensures;
  private = c.as_slice.ensures.normal;
  others = subst (AllByRecursion (λ o. AllByRecursion (IsNormal Subtag) o.1)) c.deref.ensures.value
      c.look_at_others.ensures;
}
