-- what is owed to each text follows from what is read
use Rattle.iloc_transform.proofs.ValueOwed.{value_accepts, value_refuses}
use Rattle.iloc_transform.proofs.value.Value.try_from_utf8_in.Goals as goal

pub returns-clause-accepted : goal.returns-clause-accepted
returns-clause-accepted g c = value_accepts c.args.code_units.now c.read_text.result c.read_text.ensures.reads

pub returns-clause-refused : goal.returns-clause-refused
returns-clause-refused g c = value_refuses c.args.code_units.now c.read_text.result c.read_text.ensures.reads
