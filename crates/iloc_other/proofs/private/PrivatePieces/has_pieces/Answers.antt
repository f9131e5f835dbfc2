use Rattle.iloc_other.proofs.PrintLemmas.{private_there}
use Rattle.iloc_other.proofs.private.PrivatePieces.has_pieces.Goals as goal

pub returns : goal.returns
returns c = private_there c.args.self.now c.is_empty.result c.is_empty.ensures
