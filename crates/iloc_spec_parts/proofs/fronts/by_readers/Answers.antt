-- Block by block.
use Rattle.iloc_spec_parts.proofs.ReaderBlocks as blocks
use Rattle.iloc_spec_parts.proofs.fronts.by_readers.Goals as goal

pub returns : goal.returns
returns c = λ T table t M. blocks.by_readers T table t M
