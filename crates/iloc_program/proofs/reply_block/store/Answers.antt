use Rattle.std.proofs.Common.{drop, arith}
use Rattle.iloc_program.proofs.BlockLemmas.{first_count}
use Rattle.iloc_program.proofs.reply_block.store.Goals as goal

pub returns-clause-stored : goal.returns-clause-stored
returns-clause-stored c =
    rw c.copy_from_slice.ensures.after
    (first_count c.args.to.now c.args.bytes.now _ c.args.at c.args.count (omega (arith, c.requires.room))
    c.requires.within)
