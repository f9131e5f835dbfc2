use Rattle.std.proofs.Common.{arith}
use Rattle.iloc_pieces.proofs.CursorLemmas.{short_attribute}
use Rattle.iloc_faults.proofs.Bits.{cut_bytes, cut_inside, named_next}
use Rattle.iloc_faults.proofs.step.read_subdivision.Goals as goal

pub slice_bounds-word-end : goal.slice_bounds-word-end
slice_bounds-word-end c = grind (arith, cut_inside, short_attribute)

pub names_subdivision-requires : goal.names_subdivision-requires
names_subdivision-requires c = grind (arith, cut_bytes, short_attribute)

pub returns : goal.returns
returns c = grind (arith, named_next, cut_bytes, short_attribute)
