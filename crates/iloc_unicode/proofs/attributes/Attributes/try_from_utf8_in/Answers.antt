-- what is owed to each text follows from what is read
use Rattle.iloc_unicode.proofs.OwedLemmas.{attributes_accepts}
use Rattle.iloc_unicode.proofs.attributes.Attributes.try_from_utf8_in.Goals as goal

pub returns-clause-accepted : goal.returns-clause-accepted
returns-clause-accepted g c =
    attributes_accepts c.args.code_units.now c.read_text.result c.read_text.ensures.reads
