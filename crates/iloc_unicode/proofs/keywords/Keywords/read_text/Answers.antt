use Rattle.std.proofs.Common.{subst, length}
use Rattle.iloc_memory.specs.Refusals.{RefusedWithin}
use Rattle.iloc_spec_parts.specs.Fronts.{keywords_front}
use Rattle.iloc_subtags.specs.Judging.{RunsOutOnlyIf}
use Rattle.iloc_unicode.proofs.RoomLemmas.{runs_out_within, keywords_fit}
use Rattle.iloc_unicode.proofs.keywords.Keywords.read_text.Goals as goal

pub returns-clause-out_of_memory : goal.returns-clause-out_of_memory
returns-clause-out_of_memory g c =
    runs_out_within g.M.Memory.refused _ _ (keywords_fit c.args.code_units.now) c.try_from_iter.result
    (subst (λ ps. RunsOutOnlyIf (RefusedWithin g.M.Memory.refused (length (keywords_front ps)))
    c.try_from_iter.result) c.new.ensures c.try_from_iter.ensures.out_of_memory)
