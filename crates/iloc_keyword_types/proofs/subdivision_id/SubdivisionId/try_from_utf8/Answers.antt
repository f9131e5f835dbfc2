-- what is owed to each text follows from what is read
use Rattle.iloc_keyword_types.proofs.OwedLemmas.{subdivision_accepts, subdivision_refuses}
use Rattle.iloc_keyword_types.proofs.subdivision_id.SubdivisionId.try_from_utf8.Goals as goal

pub returns-clause-accepted : goal.returns-clause-accepted
returns-clause-accepted c = subdivision_accepts c.args.code_units.now c.read_text.result c.read_text.ensures

pub returns-clause-refused : goal.returns-clause-refused
returns-clause-refused c = subdivision_refuses c.args.code_units.now c.read_text.result c.read_text.ensures
