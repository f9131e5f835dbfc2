use Rattle.std.proofs.Common.{refl}
use Rattle.iloc_data.specs.DataParents.{data_part_count}
use Rattle.iloc_data.proofs.ParentLemmas.{chain_ends, few_parts, no_parent, lacks_last, parent_value, alike}
use Rattle.iloc_data.proofs.fallback_chain.Goals as goal

pub returns-clause-ends : goal.returns-clause-ends
returns-clause-ends c d = chain_ends (data_part_count d) d refl

pub returns-clause-few : goal.returns-clause-few
returns-clause-few c = few_parts

pub returns-clause-last : goal.returns-clause-last
returns-clause-last c = no_parent

pub returns-clause-shorter : goal.returns-clause-shorter
returns-clause-shorter c = lacks_last

pub returns-clause-values : goal.returns-clause-values
returns-clause-values c = parent_value

pub returns-clause-alike : goal.returns-clause-alike
returns-clause-alike c = alike
