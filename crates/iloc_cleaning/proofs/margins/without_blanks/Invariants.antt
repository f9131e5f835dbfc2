use Rattle.std.proofs.Common.{◌≡◌, length}
use Rattle.iloc_cleaning.specs.Cleaning.{without_first, without_last, without_blanks}
use Rattle.iloc_cleaning.proofs.margins.without_blanks.Given as goal

abbrev pub invariant-first : goal.invariant-first
invariant-first l = without_first l.rest ≡ without_first l.fn.text

abbrev pub decreases-first : goal.decreases-first
decreases-first l = length l.rest

abbrev pub invariant-last : goal.invariant-last
invariant-last l = without_last l.rest ≡ without_blanks l.fn.text

abbrev pub decreases-last : goal.decreases-last
decreases-last l = length l.rest
