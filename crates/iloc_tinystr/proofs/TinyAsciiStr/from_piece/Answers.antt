use Rattle.iloc_tinystr.proofs.TinyTextLemmas.{stored_number}
use Rattle.iloc_tinystr.proofs.TinyAsciiStr.from_piece.Goals as goal

pub invariant_of-result : goal.invariant_of-result
invariant_of-result g c =
    (stored_number g.row.N c.raw_of_number.result c.args.piece c.number.result c.requires.tiny
    c.number.ensures c.raw_of_number.ensures).is_raw

pub returns : goal.returns
returns g c =
    (stored_number g.row.N c.raw_of_number.result c.args.piece c.number.result c.requires.tiny
    c.number.ensures c.raw_of_number.ensures).text_is
