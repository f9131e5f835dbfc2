-- It has at most one word in each list.
use Rattle.iloc_spec_parts.proofs.InlineLaws as inline
use Rattle.iloc_spec_parts.proofs.small.small_is_inline.Goals as goal

pub returns : goal.returns
returns c = λ T t r. inline.small_is_inline t r
