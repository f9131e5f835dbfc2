use Rattle.iloc_subtags.specs.Left.{left}
use Rattle.iloc_extensions.proofs.AnswerLemmas.{private_reads, private_shorter}
use Rattle.iloc_extensions.proofs.taking.take_private.Goals as goal

pub returns-clause-reads : goal.returns-clause-reads
returns-clause-reads g c = λ start b M a e. private_reads a e (left c.fill_private.new.iter)
    c.fill_private.new.private c.fill_private.result c.fill_private.ensures.reads

pub returns-clause-shorter : goal.returns-clause-shorter
returns-clause-shorter g c = private_shorter (left c.args.iter.now) (left c.fill_private.new.iter)
    c.fill_private.new.private c.fill_private.result c.fill_private.ensures.reads
