-- Block by block.
use Rattle.iloc_spec_parts.proofs.InlineBlockLaws.{inline_by_blocks}
use Rattle.iloc_spec_parts.proofs.small.by_blocks.Goals as goal

pub returns : goal.returns
returns c = inline_by_blocks
