use Rattle.iloc_cleaning.proofs.CleanLemmas.{unchanged}
use Rattle.iloc_cleaning.proofs.laws.unchanged.Goals as goal

pub returns : goal.returns
returns c = unchanged
