use Rattle.std.proofs.Common.{[], subst}
use Rattle.iloc_spec_grammar.specs.Syntax.{Text, pieces}
use Rattle.iloc_langid.specs.PlainReads.{IsPlainFront}
use Rattle.iloc_langid.proofs.reader.short_parts.Goals as goal

pub returns-in-Some-clause-parts : goal.returns-in-Some-clause-parts
returns-in-Some-clause-parts c =
    subst (λ (t : Text). IsPlainFront (pieces t) [] c.in-Some.plain) c.load-lanes.ensures c.in-Some.ensures
