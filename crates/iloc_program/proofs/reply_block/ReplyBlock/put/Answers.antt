use Rattle.std.proofs.Common.{arith}
use Rattle.iloc_program.proofs.BlockLemmas.{counted}
use Rattle.iloc_program.proofs.reply_block.ReplyBlock.put.Goals as goal

pub returns-clause-held : goal.returns-clause-held
returns-clause-held g c =
    rw (c.as_mut_slice.ensures.value, c.copy_from_slice.ensures.after)
    (counted c.args.self.now.room c.args.bytes.now c.args.self.now.len c.args.count _ (omega arith)
    c.requires.room c.requires.within)
