use Rattle.std.proofs.Common.{◌≡◌, ◌≤◌, [], ◌++◌, length, ap, sym, ◌∙◌, subst, arith, append-nil}
use Rattle.iloc_spec_grammar.specs.Syntax.{Text, languages}
use Rattle.iloc_memory.specs.Refusals.{RefusedWithin}
use Rattle.iloc_program.specs.Answers.{output}
use Rattle.iloc_program.specs.ReplyBlock.{held}
use Rattle.iloc_program.specs.Replies.{text_room}
use Rattle.iloc_program.proofs.RoomLemmas.{line_in_text}
use Rattle.iloc_program.proofs.RunLemmas.{on_err}
use Rattle.iloc_program.proofs.column.reply_each.Goals as goal

-- nothing comes after the text
pub returns-clause-ok : goal.returns-clause-ok
returns-clause-ok g c =
    let mode = g.A.InMode.mode in
    let text = c.args.text.now in
    let fed = held c.feed.new.replies in
    let start = c.empty-pending.result.items in
    c.in_ok-finish.ensures.ok
    ∙ ap (λ (t : Text). fed ++ output languages mode t) (sym (append-nil c.feed.new.pending.items))
    ∙ sym (c.in_ok-feed.ensures.ok.1 [])
    ∙ ap (λ (h : Text). h ++ output languages mode (start ++ (text ++ []))) c.in_ok-replies.ensures.ok
    ∙ ap (λ (p : Text). output languages mode (p ++ (text ++ []))) c.empty-pending.ensures.items
    ∙ ap (output languages mode) (append-nil text)

pub returns-in_err-feed-clause-out_of_memory : goal.returns-in_err-feed-clause-out_of_memory
returns-in_err-feed-clause-out_of_memory g c =
    let mode = g.A.InMode.mode in
    let text = c.args.text.now in
    let start = c.empty-pending.result.items in
    let whole : start ++ (text ++ []) ≡ text =
    ap (λ (p : Text). p ++ (text ++ [])) c.empty-pending.ensures.items ∙ append-nil text in
    on_err _ _ (subst (λ (t : Text). RefusedWithin g.M.Memory.refused (text_room mode [] t)) whole
    (subst (λ (h : Text). RefusedWithin g.M.Memory.refused (text_room mode h (start ++ (text ++ []))))
    c.in_ok-replies.ensures.ok (c.in_err-feed.ensures.out_of_memory [])))

-- the last line is within the text
pub returns-in_err-finish-clause-out_of_memory : goal.returns-in_err-finish-clause-out_of_memory
returns-in_err-finish-clause-out_of_memory g c =
    let mode = g.A.InMode.mode in
    let text = c.args.text.now in
    let fed = held c.feed.new.replies in
    let pending = c.feed.new.pending.items in
    let start = c.empty-pending.result.items in
    let ahead : output languages mode text ≡ fed ++ output languages mode pending =
    sym (ap (λ (h : Text). h ++ output languages mode (start ++ (text ++ []))) c.in_ok-replies.ensures.ok
    ∙ ap (λ (p : Text). output languages mode (p ++ (text ++ []))) c.empty-pending.ensures.items
    ∙ ap (output languages mode) (append-nil text))
    ∙ c.in_ok-feed.ensures.ok.1 []
    ∙ ap (λ (t : Text). fed ++ output languages mode t) (append-nil pending) in
    let nothing = ap length c.empty-pending.ensures.items in
    let few = c.in_ok-feed.ensures.ok.2 in
    on_err _ _ (line_in_text g.M.Memory.refused mode [] fed text pending pending ahead
    (omega (arith, few, nothing)) c.in_err-finish.ensures.out_of_memory)
