-- what is owed to each text follows from what is read
use Rattle.iloc_transform.proofs.OwedLemmas.{transform_accepts, transform_refuses}
use Rattle.iloc_transform.proofs.transform.Transform.try_from_utf8_in.Goals as goal

pub returns-clause-accepted : goal.returns-clause-accepted
returns-clause-accepted g c =
    transform_accepts c.args.code_units.now c.read_text.result c.read_text.ensures.reads

pub returns-clause-refused : goal.returns-clause-refused
returns-clause-refused g c =
    transform_refuses c.args.code_units.now c.read_text.result c.read_text.ensures.reads
