use Rattle.iloc_subtags.proofs.Cutting.{before_hyphen, without_hyphen}
use Rattle.iloc_subtags.proofs.subtag_iterator.first_len.Goals as goal

pub returns-in-Some-clause-first : goal.returns-in-Some-clause-first
returns-in-Some-clause-first c = before_hyphen c.args.text.now _ _ c.in-Some.ensures.0 c.in-Some.ensures.1

pub returns-in-None-clause-first : goal.returns-in-None-clause-first
returns-in-None-clause-first c = without_hyphen c.args.text.now c.in-None.ensures
