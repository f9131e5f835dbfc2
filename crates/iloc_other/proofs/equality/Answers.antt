use Rattle.iloc_other.proofs.EqualityLemmas.{words_decide, other_decides}
use Rattle.iloc_other.proofs.equality.Goals as goal

pub returns-clause-private : goal.returns-clause-private
returns-clause-private c = words_decide

pub returns-clause-other : goal.returns-clause-other
returns-clause-other c = other_decides
