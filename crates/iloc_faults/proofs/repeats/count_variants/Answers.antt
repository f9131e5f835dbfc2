use Rattle.std.proofs.Common.{sym, ◌∙◌, arith}
use Rattle.iloc_pieces.proofs.CursorLemmas.{short_variant}
use Rattle.iloc_faults.proofs.VariantsLeft.{one_alone}
use Rattle.iloc_faults.proofs.repeats.count_variants.Goals as goal

pub returns-then-is_last : goal.returns-then-is_last
returns-then-is_last c = grind (arith, one_alone)

pub next-at-requires-clause-short : goal.next-at-requires-clause-short
next-at-requires-clause-short c = short_variant _ (sym c.is_variant.ensures ∙ c.variants-test.true)
