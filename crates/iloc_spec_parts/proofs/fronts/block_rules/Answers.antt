-- The singleton decides what the extension is.
use Rattle.iloc_spec_parts.proofs.BlockRules.{unicode_alone, transform_alone, private_alone, other_alone}
use Rattle.iloc_spec_parts.proofs.fronts.block_rules.Goals as goal

pub returns : goal.returns
returns c = search (unicode_alone, transform_alone, private_alone, other_alone)
