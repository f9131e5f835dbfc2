use Rattle.std.proofs.Common.{◌≡◌, refl, sym, ap, ◌∙◌, true≢false, length}
use Rattle.std.proofs.lemmas.Bool.{eqb-true}
use Rattle.iloc_word_list.proofs.SetLaws.{search_new, search_old}
use Rattle.iloc_word_list.proofs.CollectorLaws.{put_last, last_ascends}
use Rattle.iloc_word_list.proofs.word_collector.push_last.Goals as goal
use Rattle.iloc_word_list.proofs.word_collector.push_last.Goals.{then-ascend+in-Err, else-ascend}

pub returns-in-Ok-clause-taken : goal.returns-in-Ok-clause-taken
returns-in-Ok-clause-taken g c =
    let there = search_old c.as_slice.result.now c.args.words.now.items c.args.word c.in-Ok.field-0
    c.as_slice.ensures.value (c.requires c.if-ascend.true) c.in-Ok.ensures.bound c.in-Ok.ensures.ok in
    (there.present, refl)

pub returns-clause-ascend : goal.returns-clause-ascend
returns-clause-ascend g c h = elim c.if-ascend.branch [
  | then-ascend+in-Err w ↦
      let new =
      search_new w.as_slice.result.now c.args.words.now.items c.args.word w.in-Err.at w.as_slice.ensures.value
      (c.requires w.if-ascend.true) w.in-Err.ensures.bound w.in-Err.ensures.position in
      let last : w.in-Err.at ≡ length c.args.words.now.items = eqb-true _ _ (sym w.ascend-is ∙ h)
      ∙ w.len.ensures ∙ sym w.as_slice.ensures.len ∙ ap length w.as_slice.ensures.value in
      last_ascends c.args.word c.args.words.now.items c.push.new.list.items w.in-Err.at new.set last
      c.in_ok-push.ensures.ok
  | else-ascend w ↦ absurd (true≢false (sym (sym w.ascend-is ∙ h) ∙ w.if-ascend.false))
]

pub returns-clause-taken : goal.returns-clause-taken
returns-clause-taken g c = rw c.in_ok-push.ensures.ok (put_last c.args.word c.args.words.now.items)
