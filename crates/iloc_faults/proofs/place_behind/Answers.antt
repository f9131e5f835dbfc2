use Rattle.std.proofs.Common.{ℕ, take, ap, subst, arith}
use Rattle.iloc_spec_grammar.specs.Syntax.{Text}
use Rattle.iloc_pieces.specs.Window.{text_in}
use Rattle.iloc_faults.specs.States.{IsFaultFound}
use Rattle.iloc_faults.proofs.FaultAnswers.{good_is, place_is}
use Rattle.iloc_faults.proofs.place_behind.Goals as goal

pub walk_behind-requires : goal.walk_behind-requires
walk_behind-requires g c = grind arith

pub unreachable-requires : goal.unreachable-requires
unreachable-requires g c = grind (arith, good_is)

pub returns : goal.returns
returns g c =
    let text = ap (λ (n : ℕ). take n c.args.text.bytes.now) c.len.ensures in
    let found = place_is g.A.InMode.mode (text_in c.args.text) c.in-Some.found
    (subst (λ (t : Text). IsFaultFound g.A.InMode.mode t c.in-Some.found) text c.in-Some.ensures.bad) in
    record { place = found.1; inside = (found.2, found.3) }
