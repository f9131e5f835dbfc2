use Rattle.std.proofs.Common.{◌≡◌}
use Rattle.iloc_outline.proofs.OtherLemmas.{PassesPrivate}
use Rattle.iloc_outline.proofs.other.read_private.Given as goal

-- all pieces before this one are private subtags, and nothing was put
abbrev pub invariant-words : goal.invariant-words
invariant-words g l = record { passed : PassesPrivate l.fn.cursor l.cursor; spans : l.spans ≡ l.fn.spans }

abbrev pub decreases-words : goal.decreases-words
decreases-words g l = l.cursor.remaining
