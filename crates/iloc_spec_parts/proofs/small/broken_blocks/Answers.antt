-- Nothing is kept of them.
use Rattle.iloc_spec_parts.proofs.BrokenBlocks.{broken_unicode, broken_transform, broken_other}
use Rattle.iloc_spec_parts.proofs.small.broken_blocks.Goals as goal

pub returns : goal.returns
returns c = search (broken_unicode, broken_transform, broken_other)
