use Rattle.iloc_expected.proofs.AtFault.{at_piece, at_place, before_end}
use Rattle.iloc_expected.proofs.laws.at_a_fault.Goals as goal

pub returns : goal.returns
returns c = record {
  some = at_place;
  piece = at_piece;
  end = λ mode t start end p. before_end mode t start p.from p.go_on;
}
