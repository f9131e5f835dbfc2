-- what is owed to each text follows from what is read
use Rattle.iloc_other.proofs.OwedLemmas.{other_accepts, other_refuses}
use Rattle.iloc_other.proofs.other.Other.try_from_utf8_in.Goals as goal

pub returns-clause-accepted : goal.returns-clause-accepted
returns-clause-accepted g c = other_accepts c.args.code_units.now c.read_text.result c.read_text.ensures.reads

pub returns-clause-refused : goal.returns-clause-refused
returns-clause-refused g c = other_refuses c.args.code_units.now c.read_text.result c.read_text.ensures.reads
