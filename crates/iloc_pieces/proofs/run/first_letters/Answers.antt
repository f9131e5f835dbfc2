use Rattle.std.proofs.Common.{arith}
use Rattle.std.specs.Char.{is_ascii_alphabetic}
use Rattle.std.proofs.lemmas.List.{length-take-le}
use Rattle.iloc_pieces.specs.Run.{fails}
use Rattle.iloc_pieces.proofs.RunLemmas.{run_is, twice}
use Rattle.iloc_pieces.proofs.run.first_letters.Goals as goal

pub returns : goal.returns
returns c =
    let w = c.args.window.now in
    run_is (fails is_ascii_alphabetic) is_ascii_alphabetic w c.before_marked.result c.requires
    (λ b. twice (is_ascii_alphabetic b))
    (grind (arith, length-take-le))
