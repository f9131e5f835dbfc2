use Rattle.std.proofs.Common.{◌≡◌, ◌+◌, length}
use Rattle.iloc_subtags.specs.Left.{left}
use Rattle.iloc_langid.proofs.agreeing.has_as_many.Given as goal

abbrev pub invariant-loop : goal.invariant-loop
invariant-loop l = length (left l.fn.iter) + l.missing ≡ length (left l.iterator') + l.fn.count
