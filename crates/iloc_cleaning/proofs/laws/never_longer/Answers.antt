use Rattle.iloc_cleaning.proofs.NeverLonger.{never_longer}
use Rattle.iloc_cleaning.proofs.laws.never_longer.Goals as goal

pub returns : goal.returns
returns c = never_longer
