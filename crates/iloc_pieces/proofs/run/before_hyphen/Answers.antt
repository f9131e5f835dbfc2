use Rattle.std.proofs.Common.{refl, take}
use Rattle.std.proofs.lemmas.List.{length-take-le}
use Rattle.iloc_pieces.specs.Run.{is_hyphen, fails}
use Rattle.iloc_pieces.proofs.RunLemmas.{run_is}
use Rattle.iloc_pieces.proofs.run.before_hyphen.Goals as goal

pub returns : goal.returns
returns c =
    let w = c.args.window.now in
    run_is is_hyphen (fails is_hyphen) w c.before_marked.result c.requires (λ b. refl)
    (c.before_marked.ensures is_hyphen (take 16 w) (length-take-le 16 w c.requires) c.hyphens_of.ensures)
