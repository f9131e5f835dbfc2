-- a subtag is never refused for want of memory
use Rattle.std.proofs.Common.{length}
use Rattle.iloc_memory.specs.Refusals.{RefusedWithin}
use Rattle.iloc_json.proofs.ReadBack.{word_no_want}
use Rattle.iloc_json.proofs.text_value.WordOfTextValue.read_text.Goals as goal

pub returns-clause-out_of_memory : goal.returns-clause-out_of_memory
returns-clause-out_of_memory g c =
    word_no_want (RefusedWithin g.M.Memory.refused (length c.args.text.now)) g.K.WordKind.kind
    g.K.WordKind.refusal g.met.K.WordKind.faulty c.args.text.now c.try_from_str.result c.try_from_str.ensures
