use Rattle.std.proofs.Common.{◌≡◌, ◌∙◌, ℕ, ap, take}
use Rattle.std.proofs.lemmas.Result.{on_ok_weaker}
use Rattle.iloc_pieces.specs.Window.{text_in}
use Rattle.iloc_program.specs.ReplyBlock.{held}
use Rattle.iloc_program.proofs.RoomLemmas.{was_refused}
use Rattle.locid.proofs.EntryLemmas.{refused}
use Rattle.locid.proofs.checking.CheckingListsGlobal.list.Goals as goal

pub returns-in_ok-write_report-in-Some-clause-ok : goal.returns-in_ok-write_report-in-Some-clause-ok
returns-in_ok-write_report-in-Some-clause-ok g c =
    let text : c.split_at.result.0.now ≡ text_in c.args.line =
    c.split_at.ensures.front ∙ ap (λ (k : ℕ). take k c.args.line.bytes.now) c.len.ensures in
    on_ok_weaker c.extend_from_slice.result
    (λ e. refused c.mode-mode.result g.A.InMode.mode c.mode-mode.ensures c.split_at.result.0.now
    (text_in c.args.line) text c.in-Some.fault c.in-Some.ensures.refused _ (held c.args.replies.now)
    (held c.extend_from_slice.new.self) e)
    c.extend_from_slice.ensures.ok

pub returns-in_ok-write_report-in-Some-clause-out_of_memory :
    goal.returns-in_ok-write_report-in-Some-clause-out_of_memory
returns-in_ok-write_report-in-Some-clause-out_of_memory g c =
    was_refused _ _ c.extend_from_slice.result c.extend_from_slice.ensures.out_of_memory
