use Rattle.std.proofs.Common.{arith}
use Rattle.iloc_pieces.specs.Window.{text_in}
use Rattle.iloc_faults.proofs.FaultAnswers.{place_inside}
use Rattle.iloc_faults.proofs.Refusals.{first_place, language_first, refused_not}
use Rattle.iloc_faults.proofs.place_of.Goals as goal

pub place_behind-requires : goal.place_behind-requires
place_behind-requires g c = grind (arith, refused_not, language_first)

pub returns-in-InvalidLanguage-clause-place : goal.returns-in-InvalidLanguage-clause-place
returns-in-InvalidLanguage-clause-place g c = grind (arith, first_place)

pub returns-in-InvalidLanguage-clause-inside : goal.returns-in-InvalidLanguage-clause-inside
returns-in-InvalidLanguage-clause-inside g c =
    place_inside g.A.InMode.mode (text_in c.args.text) 0 c.first_end.result (grind (arith, first_place))
