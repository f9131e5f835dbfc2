-- The longest front of an identifier, and fields.
use Rattle.iloc_spec_parts.proofs.TransformLaws.{transform_reader, transform_answer, transform_agrees, repeats_by_block}
use Rattle.iloc_spec_parts.proofs.fronts.transform_front.Goals as goal

pub returns : goal.returns
returns c = search (transform_reader, transform_answer, transform_agrees, repeats_by_block)
