use Rattle.std.proofs.Common.{arith, take}
use Rattle.iloc_faults.proofs.Walks.{language_came, alone_good, walked_behind}
use Rattle.iloc_faults.proofs.walk.walk_behind.Goals as goal

pub returns-then-is_last-clause-good : goal.returns-then-is_last-clause-good
returns-then-is_last-clause-good g c _ = grind (arith, alone_good)

pub next-second-requires-clause-short : goal.next-second-requires-clause-short
next-second-requires-clause-short g c =
    (language_came c.args.mode (take c.args.len c.args.window.now) c.cursor_in-first.result
    c.cursor_in-first.ensures.at c.cursor_in-first.ensures.rest c.requires.begins).3

pub walk_from-requires-clause-walked : goal.walk_from-requires-clause-walked
walk_from-requires-clause-walked g c = grind (arith, walked_behind)
