use Rattle.std.proofs.Common.{refl, arith}
use Rattle.std.proofs.lemmas.Nat.{one_shl}
use Rattle.iloc_pieces.proofs.Masks.{closed_marks}
use Rattle.iloc_pieces.proofs.marks.closed_at.Goals as goal

pub returns : goal.returns
returns c = λ v inside are.
    closed_marks v c.args.n _ inside (one_shl c.args.n 64 (omega arith)) c.args.marks _ are refl refl refl
