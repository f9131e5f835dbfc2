use Rattle.std.proofs.Common.{◌∷◌, [], ◌++◌, ap, length, length-append, arith}
use Rattle.iloc_memory.proofs.Within.{within_more}
use Rattle.iloc_copying.proofs.Results.{on_err}
use Rattle.iloc_copying.proofs.Yielded.{one_more_yielded}
use Rattle.iloc_shortvec.proofs.short_words.ShortWords.from_iter_in.Goals as goal

pub loop-item-init : goal.loop-item-init
loop-item-init g c =
    let ready = c.requires.ends _ c.into_iter-item-iterator.ensures.into_iter_gives in
    record { callable = ready.0; ends = ready.1; kept = c.new-list.ensures }

pub returns-in_err-push_in-clause-out_of_memory : goal.returns-in_err-push_in-clause-out_of_memory
returns-in_err-push_in-clause-out_of_memory g c =
    let kept = ap length c.loop-item.invariant.kept in
    let one = length-append c.loop-item.yielded (c.in-Some.item ∷ []) in
    on_err c.from_residual.result _ (
      c.into_iter-item-iterator.result,
      c.loop-item.yielded ++ c.in-Some.item ∷ [],
      c.next.new.self,
      c.into_iter-item-iterator.ensures.into_iter_gives,
      one_more_yielded g.I.IntoIter.Iterator.next_gives _ _ c.loop-item.item-iterator c.in-Some.item _
          c.loop-item.yielded_by c.in-Some.ensures.steps,
      within_more g.M.Memory.refused _ _ (omega (arith, kept, one)) c.in_err-push_in.ensures.out_of_memory,
    )
