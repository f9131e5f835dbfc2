-- From the laws of sets.
use Rattle.iloc_spec_grammar.proofs.ValuesLaws.{set_of_ascending}
use Rattle.iloc_spec_grammar.proofs.WellRead.{set_of-ascending}
use Rattle.iloc_spec_grammar.proofs.Orders.{set_of_reordered}
use Rattle.iloc_spec_grammar.proofs.SetLaws.{any-set_of, set_of-first, set_of-last, length-set_of, length-set_of-different}
use Rattle.iloc_spec_grammar.proofs.sets.Goals as goal

pub returns : goal.returns
returns c = search (
  set_of-ascending,
  any-set_of,
  set_of_ascending,
  set_of-first,
  set_of-last,
  set_of_reordered,
  length-set_of,
  length-set_of-different,
)
