use Rattle.std.proofs.Common.{◌≡◌, ◌+◌, ◌<◌, length, rules}
use Rattle.iloc_program.proofs.FeedLemmas.{Ends-line}
use Rattle.iloc_program.proofs.listed_lines.finish.Goals as goal

pub returns-clause-ok : goal.returns-clause-ok
returns-clause-ok g c =
    let pending = c.args.pending.now.items in
    let some : 0 < length pending = search rules in
    let one_more : c.in-Some.after ≡ c.args.number + 1 = search rules in
    Ends-line _ _ pending _ _ _ c.requires some c.in_ok-end_line.ensures.replies one_more
