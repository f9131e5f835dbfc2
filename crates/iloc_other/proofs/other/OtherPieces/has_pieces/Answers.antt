use Rattle.std.proofs.Common.{ap, not, ◌∙◌}
use Rattle.iloc_other.proofs.PrintLemmas.{other_there}
use Rattle.iloc_other.proofs.other.OtherPieces.has_pieces.Goals as goal

pub returns : goal.returns
returns c =
    ap not c.is_empty.ensures ∙ other_there c.args.self.now c.as_slice.result.now c.as_slice.ensures.words
