use Rattle.iloc_faults.proofs.VariantsLeft.{few_new}
use Rattle.iloc_faults.proofs.repeats.count_new.Goals as goal

pub returns-then-all-le1 : goal.returns-then-all-le1
returns-then-all-le1 g c =
    few_new c.args.first c.count_variants-all.result c.count_variants-all.ensures c.if-all-le1.true
