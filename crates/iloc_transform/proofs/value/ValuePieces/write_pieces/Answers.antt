use Rattle.std.proofs.Common.{sym, ◌∙◌}
use Rattle.iloc_transform.proofs.PrintLemmas.{spelled_some}
use Rattle.iloc_transform.proofs.value.ValuePieces.write_pieces.Goals as goal

pub returns : goal.returns
returns g c = rw
    (← spelled_some c.args.self.now c.as_slice-subtags.result.now c.as_slice-subtags.ensures.subtags
    (sym c.is_empty.ensures ∙ c.if-is_empty.false)) c.write_pieces.ensures
