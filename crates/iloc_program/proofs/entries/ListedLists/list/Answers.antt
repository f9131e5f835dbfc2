use Rattle.std.proofs.Common.{◌≡◌, ℕ, take, length, refl, ap, ◌∙◌, subst, Option, Some, None}
use Rattle.iloc_subtags.specs.declared.parse_error.ParseError.{ParseError}
use Rattle.iloc_normalize.specs.declared.Mode.{Mode}
use Rattle.iloc_normalize.specs.Answered.{HasRefusal}
use Rattle.iloc_pieces.specs.Window.{text_in}
use Rattle.iloc_program.specs.Listing.{IsEntry}
use Rattle.iloc_program.specs.Numbered.{AddsText}
use Rattle.iloc_program.specs.Replies.{AnswersLine}
use Rattle.iloc_program.specs.ReplyBlock.{held}
use Rattle.iloc_program.proofs.EntryLemmas.{entry_of, left_out}
use Rattle.iloc_program.proofs.entries.ListedLists.list.Goals as goal

pub write_refused-requires : goal.write_refused-requires
write_refused-requires g c =
    let line = text_in c.args.line in
    let before = held c.args.replies.now in
    let after = held c.answer_in.new.replies in
    let is : AnswersLine c.mode-mode.result line before after (Some c.in-Some.refusal) =
    subst (λ (o : Option ParseError). AnswersLine c.mode-mode.result line before after o) c.in-Some.is
    c.in_ok-refusal.ensures.ok in
    subst (λ (m : Mode). HasRefusal m line c.in-Some.refusal) c.mode-mode.ensures is.0

pub returns-in-Some-clause-ok : goal.returns-in-Some-clause-ok
returns-in-Some-clause-ok g c =
    let line = text_in c.args.line in
    let before = held c.args.replies.now in
    let after = held c.answer_in.new.replies in
    let is : AnswersLine c.mode-mode.result line before after (Some c.in-Some.refusal) =
    subst (λ (o : Option ParseError). AnswersLine c.mode-mode.result line before after o) c.in-Some.is
    c.in_ok-refusal.ensures.ok in
    entry_of c.write_refused.result g.A.InMode.mode g.A.InMode.mode c.args.listing c.args.number
    line line after before (held c.write_refused.new.replies) refl refl is.1
    c.write_refused.ensures.ok

pub returns-in-None-clause-ok : goal.returns-in-None-clause-ok
returns-in-None-clause-ok g c =
    let line = text_in c.args.line in
    let before = held c.args.replies.now in
    let after = held c.answer_in.new.replies in
    let is : AnswersLine c.mode-mode.result line before after None =
    subst (λ (o : Option ParseError). AnswersLine c.mode-mode.result line before after o) c.in-None.is
    c.in_ok-refusal.ensures.ok in
    let cut : held c.truncate.new.self ≡ take (length before) after =
    c.truncate.ensures ∙ ap (λ (k : ℕ). take k after) c.len-before.ensures in
    subst (λ (m : Mode). AddsText (IsEntry m c.args.listing c.args.number line) before
    (held c.truncate.new.self)) c.mode-mode.ensures
    (left_out c.mode-mode.result c.args.listing c.args.number line before (held c.truncate.new.self) after is
    c.if-listing.true cut)
