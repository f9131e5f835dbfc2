use Rattle.std.proofs.Common.{arith, ℕ, take, ap, subst}
use Rattle.iloc_spec_grammar.specs.Syntax.{Text}
use Rattle.iloc_pieces.specs.Window.{text_in}
use Rattle.iloc_faults.specs.States.{IsFaultFound}
use Rattle.iloc_faults.proofs.FaultAnswers.{good_is, place_is}
use Rattle.iloc_faults.proofs.place_in.Goals as goal

pub returns-in-Some-clause-accepted : goal.returns-in-Some-clause-accepted
returns-in-Some-clause-accepted g c =
    let text = ap (λ (n : ℕ). take n c.args.text.bytes.now) c.len.ensures in
    let found = place_is c.args.mode (text_in c.args.text) c.in-Some.found
    (subst (λ (t : Text). IsFaultFound c.args.mode t c.in-Some.found) text c.in-Some.ensures.bad) in
    (λ e. absurd (cc), λ a. absurd (found.0 a))

pub returns-in-Some-clause-inside : goal.returns-in-Some-clause-inside
returns-in-Some-clause-inside g c =
    let text = ap (λ (n : ℕ). take n c.args.text.bytes.now) c.len.ensures in
    let found = place_is c.args.mode (text_in c.args.text) c.in-Some.found
    (subst (λ (t : Text). IsFaultFound c.args.mode t c.in-Some.found) text c.in-Some.ensures.bad) in
    (found.2, found.3)

pub returns-in-None-clause-accepted : goal.returns-in-None-clause-accepted
returns-in-None-clause-accepted g c = grind (arith, good_is)
