use Rattle.std.proofs.Common.{arith}
use Rattle.iloc_pieces.proofs.PieceLemmas.{stored_first, stored_rest}
use Rattle.iloc_pieces.proofs.plain.Plain.store.Goals as goal

pub returns-clause-text : goal.returns-clause-text
returns-clause-text c = grind (arith, stored_first)

pub returns-clause-rest : goal.returns-clause-rest
returns-clause-rest c =
    stored_rest c.args.room.now c.args.self.now.bytes c.requires.words.wide c.requires.room
