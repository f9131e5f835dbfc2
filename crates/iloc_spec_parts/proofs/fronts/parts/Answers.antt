-- The singleton comes first.
use Rattle.iloc_spec_parts.proofs.PartReaders.{unicode_part, transform_part, other_part, private_part}
use Rattle.iloc_spec_parts.proofs.fronts.parts.Goals as goal

pub returns : goal.returns
returns c = search (unicode_part, transform_part, other_part, private_part)
