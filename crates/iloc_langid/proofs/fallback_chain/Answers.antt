use Rattle.std.proofs.Common.{refl}
use Rattle.iloc_langid.specs.Parents.{part_count}
use Rattle.iloc_langid.proofs.ParentLemmas.{chain_ends, few_parts, no_parent, lacks_last, parent_value}
use Rattle.iloc_langid.proofs.fallback_chain.Goals as goal

pub returns-clause-ends : goal.returns-clause-ends
returns-clause-ends c i = chain_ends (part_count i) i refl

pub returns-clause-few : goal.returns-clause-few
returns-clause-few c = few_parts

pub returns-clause-last : goal.returns-clause-last
returns-clause-last c = no_parent

pub returns-clause-shorter : goal.returns-clause-shorter
returns-clause-shorter c = lacks_last

pub returns-clause-values : goal.returns-clause-values
returns-clause-values c = parent_value
