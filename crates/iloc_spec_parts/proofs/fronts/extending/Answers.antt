-- By look-ups.
use Rattle.iloc_spec_parts.proofs.ExtendingLaws.{extend_associative, extend_overrides, extend_unites, extend_is_value, extend_nothing, nothing_extended}
use Rattle.iloc_spec_parts.proofs.fronts.extending.Goals as goal

pub returns : goal.returns
returns c = search (
  extend_associative,
  extend_overrides,
  extend_unites,
  extend_is_value,
  extend_nothing,
  nothing_extended,
)
