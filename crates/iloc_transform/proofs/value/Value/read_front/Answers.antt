use Rattle.iloc_subtags.specs.Left.{left}
use Rattle.iloc_memory.proofs.Within.{within_more}
use Rattle.iloc_word_list.proofs.RoomLemmas.{allows}
use Rattle.iloc_transform.proofs.ValueLemmas.{one_more_fits}
use Rattle.iloc_transform.proofs.value.Value.read_front.Goals as goal

pub returns-in_err-push-2-clause-out_of_memory : goal.returns-in_err-push-2-clause-out_of_memory
returns-in_err-push-2-clause-out_of_memory g c =
    let failed = c.in_err-push-2.ensures in
    let room = one_more_fits (left c.args.iter.now) (left c.words.iter) c.words.value
    c.in-Some-take_word.word c.words.invariant c.in-Some-take_word.ensures.word failed.err.1 in
    allows _ _ (within_more g.M.Memory.refused _ _ room failed.out_of_memory)
