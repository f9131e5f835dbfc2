use Rattle.std.proofs.Common.{◌≡◌, [], ◌++◌, length}
use Rattle.iloc_program.specs.ReplyBlock.{held}
use Rattle.iloc_program.specs.Feeding.{Feeds}
use Rattle.iloc_program.proofs.listed_lines.feed_lines.Given as goal
use Rattle.iloc_spec_grammar.specs.Syntax.{Text}

-- the first bytes were fed, the rest is left, and nothing is pending
abbrev pub invariant-lines : goal.invariant-lines
invariant-lines g l = (taken : Text) × (l.fn.bytes ≡ taken ++ l.rest) × (l.pending.items ≡ [])
    × Feeds (g.L.Lists.is_entry l.fn.listing) l.fn.number [] taken (held l.fn.replies) (held l.replies)
    l.pending.items l.next

abbrev pub decreases-lines : goal.decreases-lines
decreases-lines g l = length l.rest
