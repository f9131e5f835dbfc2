use Rattle.std.proofs.Common.{add-zero, append-nil, arith}
use Rattle.std.proofs.lemmas.Grind.{take-set_at}
use Rattle.std.proofs.lemmas.List.{length-take-le, length-set}
use Rattle.iloc_spec_grammar.specs.Syntax.{lower}
use Rattle.iloc_outline.proofs.CopyingLemmas.{copied_first, copied_more, lower_one}
use Rattle.iloc_outline.proofs.printing.copy_last.Goals as goal

pub bytes-init : goal.bytes-init
unfolding lower
bytes-init c = grind (arith, add-zero, append-nil)

pub bytes-preserved : goal.bytes-preserved
bytes-preserved c = grind (arith, lower_one, length-set, copied_more, take-set_at)

pub returns-clause-copied : goal.returns-clause-copied
returns-clause-copied c = grind (arith, copied_first, length-take-le)
