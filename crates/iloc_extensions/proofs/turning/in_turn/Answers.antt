use Rattle.iloc_extensions.proofs.DoneLaws.{turned_means}
use Rattle.iloc_extensions.proofs.turning.in_turn.Goals as goal

pub returns : goal.returns
returns c = λ T bs e. turned_means bs e
