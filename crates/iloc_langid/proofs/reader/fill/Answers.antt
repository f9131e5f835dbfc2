use Rattle.iloc_subtags.specs.Left.{left}
use Rattle.iloc_langid.proofs.FrontLemmas.{front_filled}
use Rattle.iloc_langid.proofs.VariantLemmas.{refused_after}
use Rattle.iloc_langid.proofs.reader.fill.Goals as goal

pub returns-clause-reads : goal.returns-clause-reads
returns-clause-reads g c =
    front_filled (left c.args.iter.now) (left c.take_plain.new.iter) (left c.fill_variants.new.iter) _
    c.in-Some.ensures c.fill_variants.result c.fill_variants.ensures.reads

pub returns-clause-out_of_memory : goal.returns-clause-out_of_memory
returns-clause-out_of_memory g c =
    refused_after g.M.Memory.refused (left c.args.iter.now) (left c.take_plain.new.iter)
    c.in-Some.ensures.after c.fill_variants.result c.fill_variants.ensures.out_of_memory
