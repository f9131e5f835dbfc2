-- Both ways.
use Rattle.iloc_spec_grammar.proofs.SameMeaning.{means_by_blocks, blocks_mean}
use Rattle.iloc_spec_grammar.proofs.models.by_blocks.Goals as goal

pub returns : goal.returns
returns c = λ T table t M. (means_by_blocks t M, blocks_mean t M)
