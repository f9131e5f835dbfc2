-- From the locale that it is.
use Rattle.iloc_spec_parts.proofs.SmallLaws.{one_small, small_means}
use Rattle.iloc_spec_parts.proofs.SmallBack.{small_back, read_is_small_value}
use Rattle.iloc_spec_parts.proofs.small.small_texts.Goals as goal

pub returns : goal.returns
returns c = search (one_small, small_means, read_is_small_value, small_back)
