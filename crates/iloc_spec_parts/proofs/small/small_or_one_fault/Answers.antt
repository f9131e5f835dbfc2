-- By cases on the head and the first block.
use Rattle.iloc_spec_parts.proofs.SmallLaws.{small_answer, small_or_fault, small_apart, one_small_fault}
use Rattle.iloc_spec_parts.proofs.small.small_or_one_fault.Goals as goal

pub returns : goal.returns
returns c = search (small_or_fault, small_apart, one_small_fault, small_answer)
