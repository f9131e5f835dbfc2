use Rattle.std.proofs.Common.{ap, not, ◌∙◌}
use Rattle.iloc_transform.proofs.TextLemmas.{transform_there}
use Rattle.iloc_transform.proofs.transform.TransformPieces.has_pieces.Goals as goal

pub returns : goal.returns
returns c = ap not c.is_empty.ensures ∙ transform_there c.args.self.now.lang c.args.self.now.fields
