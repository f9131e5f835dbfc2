use Rattle.std.proofs.Common.{refl}
use Rattle.iloc_pieces.proofs.Masks.{later_marks}
use Rattle.iloc_pieces.proofs.marks.Marks.after.Goals as goal

pub returns : goal.returns
returns c = λ v are. later_marks v c.args.past c.args.self _ are refl refl refl
