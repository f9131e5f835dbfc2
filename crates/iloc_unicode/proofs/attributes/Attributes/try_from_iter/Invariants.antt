-- The words so far are in the set.
use Rattle.std.proofs.Common.{length}
use Rattle.iloc_subtags.specs.Left.{left}
use Rattle.iloc_unicode.proofs.AttributeLemmas.{GatheredFew}
use Rattle.iloc_unicode.proofs.attributes.Attributes.try_from_iter.Given as goal

abbrev pub invariant-few : goal.invariant-few
invariant-few g l = GatheredFew (left l.fn.iter) (left l.iter) l.attributes

abbrev pub decreases-few : goal.decreases-few
decreases-few g l = length (left l.iter)
