use Rattle.iloc_pieces.proofs.CursorLemmas.{short_variant}
use Rattle.iloc_faults.proofs.VariantsLeft.{numbers_last, numbers_next}
use Rattle.iloc_faults.proofs.repeats.after.Goals as goal

pub next-requires-clause-short : goal.next-requires-clause-short
next-requires-clause-short c = short_variant _ c.requires

pub returns-then-is_last : goal.returns-then-is_last
returns-then-is_last c n ns a = numbers_last (c.is_last.ensures.0 c.if-is_last.true) c.requires a

pub returns-else-is_last : goal.returns-else-is_last
returns-else-is_last c n ns a = numbers_next c.next.ensures a
