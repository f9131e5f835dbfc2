use Rattle.std.proofs.Common.{◌≡◌, length}
use Rattle.iloc_subtags.specs.Left.{left}
use Rattle.iloc_langid.specs.Agreeing.{AreVariants, are_all_among}
use Rattle.iloc_langid.proofs.agreeing.has_each.Given as goal

abbrev pub invariant-loop-rest : goal.invariant-loop-rest
invariant-loop-rest l =
    AreVariants l.rest × (are_all_among (left l.iter) l.variants ≡ are_all_among (left l.iter) l.rest)

abbrev pub decreases-loop-rest : goal.decreases-loop-rest
decreases-loop-rest l = length l.rest
