use Rattle.std.proofs.Common.{◌≡◌, length}
use Rattle.iloc_subtags.specs.Left.{left}
use Rattle.iloc_langid.specs.Agreeing.{AreVariants, are_just}
use Rattle.iloc_langid.proofs.agreeing.past_equal.Given as goal

abbrev pub invariant-loop-variant : goal.invariant-loop-variant
invariant-loop-variant l =
    AreVariants l.rest × (are_just (left l.iter) l.rest ≡ are_just (left l.fn.iter) l.variants)

abbrev pub decreases-loop-variant : goal.decreases-loop-variant
decreases-loop-variant l = length l.rest
