use Rattle.iloc_subtags.specs.Left.{left}
use Rattle.iloc_langid.proofs.FrontLemmas.{front_reads}
use Rattle.iloc_langid.proofs.reader.fill_front.Goals as goal

pub returns-clause-reads : goal.returns-clause-reads
returns-clause-reads g c = front_reads (left c.args.iter.now) (left c.fill.new.iter) _ c.fill.ensures.reads
