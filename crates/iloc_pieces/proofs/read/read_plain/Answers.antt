use Rattle.std.proofs.Common.{take, ◌≡◌, IfSome, subst}
use Rattle.std.proofs.lemmas.List.{take-take}
use Rattle.iloc_pieces.specs.Plain.{IsPlain}
use Rattle.iloc_pieces.proofs.read.read_plain.Goals as goal
use Rattle.iloc_spec_grammar.specs.Syntax.{Text}

pub returns : goal.returns
returns c =
    let same : take c.args.len (take 16 c.args.window.now) ≡ take c.args.len c.args.window.now =
    take-take c.args.len 16 c.args.window.now c.requires.few in
    subst (λ (t : Text). IfSome c.read_lanes.result (IsPlain t)) same c.read_lanes.ensures
