-- The words of the others that were looked at are normal.
use Rattle.std.proofs.Common.{take}
use Rattle.std.specs.List.{AllByRecursion}
use Rattle.iloc_spec_grammar.specs.Syntax.{Subtag}
use Rattle.iloc_spec_grammar.specs.Values.{IsNormal}
use Rattle.iloc_extensions.proofs.kept.look_at_others.Given as goal

abbrev pub invariant-loop-other : goal.invariant-loop-other
invariant-loop-other l =
    AllByRecursion (λ o. AllByRecursion (IsNormal Subtag) o.1) (take l.other-index l.others)
