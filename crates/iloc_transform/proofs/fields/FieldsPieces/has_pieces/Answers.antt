use Rattle.iloc_transform.proofs.PrintLemmas.{there_are_pieces}
use Rattle.iloc_transform.proofs.fields.FieldsPieces.has_pieces.Goals as goal

pub returns : goal.returns
returns c = there_are_pieces c.args.self.now c.is_empty.result c.is_empty.ensures
