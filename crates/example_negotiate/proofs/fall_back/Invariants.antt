-- What is looked up is left of what was wanted, and each step leaves a part less.
use Rattle.icu_locale_core.specs.Reads.{value_of}
use Rattle.icu_locale_core.specs.Parents.{part_count}
use Rattle.example_negotiate.specs.Fallback.{IsLeftOf}
use Rattle.example_negotiate.proofs.fall_back.Given as goal

abbrev pub invariant-parents : goal.invariant-parents
invariant-parents l = IsLeftOf (value_of l.initial.wanted) (value_of l.wanted)

abbrev pub decreases-parents : goal.decreases-parents
decreases-parents l = part_count (value_of l.wanted)
