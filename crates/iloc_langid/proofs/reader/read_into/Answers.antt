use Rattle.iloc_subtags.specs.Left.{left}
use Rattle.iloc_langid.proofs.VariantLemmas.{refused_in_text}
use Rattle.iloc_langid.proofs.reader.read_into.Goals as goal

pub returns-then-is_err-clause-out_of_memory : goal.returns-then-is_err-clause-out_of_memory
returns-then-is_err-clause-out_of_memory g c =
    refused_in_text g.M.Memory.refused c.args.code_units.now (left c.new.result) c.new.ensures
    c.fill_whole-answer.result c.fill_whole-answer.ensures.out_of_memory
