use Rattle.iloc_pieces.proofs.TailLemmas.{each_tail}
use Rattle.iloc_pieces.proofs.tail.Tail.of.Goals as goal

pub returns : goal.returns
returns c = each_tail _ c.args.len c.requires
