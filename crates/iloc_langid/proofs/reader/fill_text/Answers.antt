use Rattle.iloc_subtags.specs.Left.{left}
use Rattle.iloc_langid.proofs.VariantLemmas.{refused_in_text}
use Rattle.iloc_langid.proofs.reader.fill_text.Goals as goal

pub returns-clause-out_of_memory : goal.returns-clause-out_of_memory
returns-clause-out_of_memory g c =
    refused_in_text g.M.Memory.refused c.args.code_units.now (left c.new.result) c.new.ensures
    c.fill_whole.result c.fill_whole.ensures.out_of_memory
