-- From the programs for what follows the singletons.
use Rattle.iloc_spec_parts.proofs.FrontLaws.{unicode_answer, other_answer, private_answer}
use Rattle.iloc_spec_parts.proofs.TransformLaws.{transform_answer}
use Rattle.iloc_spec_parts.proofs.PartReaders.{part_answer}
use Rattle.iloc_spec_parts.proofs.fronts.part_answers.Goals as goal

pub returns : goal.returns
returns c = search (part_answer, unicode_answer, transform_answer, other_answer, private_answer)
