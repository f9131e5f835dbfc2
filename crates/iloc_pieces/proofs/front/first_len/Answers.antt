use Rattle.std.proofs.Common.{arith}
use Rattle.iloc_pieces.proofs.FrontLemmas.{first_is}
use Rattle.iloc_pieces.proofs.front.first_len.Goals as goal

pub returns-then-n-len : goal.returns-then-n-len
returns-then-n-len c =
    first_is c.args.window.now c.args.len c.before_hyphen-n.result c.before_hyphen-n.result c.requires.wide
    c.requires.inside c.before_hyphen-n.ensures
    (omega arith) (omega arith) (λ less. omega arith)

pub returns-else-n-len : goal.returns-else-n-len
returns-else-n-len c =
    first_is c.args.window.now c.args.len c.before_hyphen-n.result c.args.len c.requires.wide
    c.requires.inside c.before_hyphen-n.ensures
    (omega arith) (omega arith) (λ less. absurd (omega arith))
