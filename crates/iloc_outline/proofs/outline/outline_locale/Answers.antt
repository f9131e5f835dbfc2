-- A head that is all of the text is a locale; one before blocks is one if they are good.
use Rattle.std.proofs.Common.{arith, take}
use Rattle.std.proofs.lemmas.List.{length-take-le}
use Rattle.iloc_outline.proofs.FinishLemmas.{finished_alone, finished_locale}
use Rattle.iloc_outline.proofs.Meanings.{refused_head}
use Rattle.iloc_memory.proofs.Within.{within_more}
use Rattle.iloc_outline.proofs.RefusalLemmas.{head_few}
use Rattle.iloc_outline.proofs.OutlineLemmas.{locale_full, locale_refused}
use Rattle.iloc_outline.proofs.outline.outline_locale.Goals as goal

pub returns-in-All-clause-outlined : goal.returns-in-All-clause-outlined
returns-in-All-clause-outlined g c = grind (arith, finished_alone, length-take-le)

pub returns-in-Refused-clause-outlined : goal.returns-in-Refused-clause-outlined
returns-in-Refused-clause-outlined g c = grind (arith, refused_head)

pub returns-in-Good-clause-outlined : goal.returns-in-Good-clause-outlined
returns-in-Good-clause-outlined g c = grind (arith, finished_locale, length-take-le)

pub returns-in-Refused-read_blocks-clause-outlined : goal.returns-in-Refused-read_blocks-clause-outlined
returns-in-Refused-read_blocks-clause-outlined g c =
    let head = c.read_head.new in
    let new = c.read_blocks.new in
    let h = rw c.cursor_in-cursor.ensures.rest at c.in-Block.ensures.read in
    locale_refused (take c.args.len c.args.window.now) c.in-Block.outline head.spans head.in_order
    head.cursor h.6 h.1 h.3 h.4 new.spans new.in_order c.in-Refused-read_blocks.error
    c.in-Refused-read_blocks.ensures.read

pub returns-in-Full-read_blocks-clause-outlined : goal.returns-in-Full-read_blocks-clause-outlined
returns-in-Full-read_blocks-clause-outlined g c = grind (arith, locale_full)

pub returns-in-Full-read_blocks-clause-refused : goal.returns-in-Full-read_blocks-clause-refused
returns-in-Full-read_blocks-clause-refused g c = λ _.
    let head = c.read_head.new in
    let h = rw c.cursor_in-cursor.ensures.rest at c.in-Block.ensures.read in
    within_more _ _ _
    (head_few (take c.args.len c.args.window.now) c.in-Block.outline head.spans head.in_order head.cursor
    h.6 h.3)
    (c.read_blocks.ensures.refused c.in-Full-read_blocks.is)
